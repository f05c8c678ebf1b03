-- `licence::band_key` meets its contract. Assumes nothing.
use Rattle.licence.specs.Row.{band_key}
use Rattle.licence.proofs.band_key.Goals as goal

pub returns-in-Priority : goal.returns-in-Priority
unfolding band_key
returns-in-Priority c = cc

pub returns-in-Fifo : goal.returns-in-Fifo
unfolding band_key
returns-in-Fifo c = cc
