-- A run worked out by hand, and the log that the model gives for it: a frame that blocks, a FIFO, and a higher row that comes in between.
-- Assumes nothing.
use Rattle.std.specs.Prelude.{◌≡◌, refl, [], ◌∷◌}
use Rattle.std.proofs.Math.Decide.{ℕ_discrete, dec_lt}
use Rattle.bus.specs.Model.{place, keep, heads, behead, highest, begin, compete_of, compete_on, compete, pass_on, pass, join, step, state}
use Rattle.bus.specs.ByHand.{table, order, first, second, short, older, blocker, run, sent}

-- Row 3 finds the bus free at 0 and holds it until 5, though all that stands higher comes meanwhile. At 5 row 0 goes first, until 7; then row 2, the
-- oldest of the FIFO though row 1 stands higher, until 11. Row 0, queued in that very bit time, goes before row 1, until 13; and row 1 until 15. The
-- last sent stands first.
pub log_by_hand : (state table order run 21).log ≡ sent short 15 ∷ sent second 13 ∷ sent older 11 ∷ sent first 7 ∷ sent blocker 5 ∷ []
unfolding state step join pass pass_on compete compete_on compete_of begin behead highest heads keep place ℕ_discrete dec_lt
log_by_hand = refl
