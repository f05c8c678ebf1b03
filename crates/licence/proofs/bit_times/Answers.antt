-- `licence::bit_times` meets its contract: what `frame_times` requires is some bits beside the bytes, and the bound on the length, at its kind.
-- Assumes nothing.
use lib.Dec.{lit<}
use Rattle.licence.specs.Row.{bit_times}
use Rattle.licence.proofs.bit_times.Goals as goal

pub frame_times-requires : goal.frame_times-requires
unfolding bit_times
frame_times-requires c = (lit< tt, rw c.in-Std.is at c.requires)

pub frame_times-requires-in-Ext : goal.frame_times-requires-in-Ext
unfolding bit_times
frame_times-requires-in-Ext c = (lit< tt, rw c.in-Ext.is at c.requires)

pub returns-in-Bits : goal.returns-in-Bits
unfolding bit_times
returns-in-Bits c = cc

pub returns-in-Std : goal.returns-in-Std
unfolding bit_times
returns-in-Std c = cc

pub returns-in-Ext : goal.returns-in-Ext
unfolding bit_times
returns-in-Ext c = cc
