-- `licence::read_row` meets its contract: each return is where the chain of tests of `first_bad` stops. Assumes nothing.
use Rattle.std.proofs.Common.{◌∙◌}
use Rattle.std.specs.Prelude.{◌≡◌, leb, ◌&&◌}
use Rattle.licence.specs.declared.Field.TheVariants.{Queue, Form, Size, Period, Deadline, Jitter}
use Rattle.licence.specs.Row.{first_bad}
use Rattle.licence.proofs.Tests.{tests, range_tells}
use Rattle.licence.proofs.Reading.{part, bad_read, good_read}
use Rattle.licence.proofs.read_row.Goals as goal
use Rattle.licence.proofs.read_row.Goals.{After-contains, After-contains-2}

-- what the two ranges told
period_told : (c : After-contains) → let t = part c.args.table.now c.args.i 3 in c.contains.result ≡ (leb 1 t && leb t 1000000)
period_told c = c.contains.ensures.value ∙ range_tells _ c.new.ensures.start c.new.ensures.end c.new.ensures.exhausted

deadline_told : (c : After-contains-2) → let d = part c.args.table.now c.args.i 4 in c.contains-2.result ≡ (leb 1 d && leb d (part c.args.table.now c.args.i 3))
deadline_told c = c.contains-2.ensures.value ∙ range_tells _ c.new-2.ensures.start c.new-2.ensures.end c.new-2.ensures.exhausted

pub returns-then-queue-gt64 : goal.returns-then-queue-gt64
unfolding first_bad
returns-then-queue-gt64 c = bad_read _ _ Queue (search tests)

pub returns-then-form-gt2 : goal.returns-then-form-gt2
unfolding first_bad
returns-then-form-gt2 c = bad_read _ _ Form (search tests)

pub returns-then-not-size_allowed : goal.returns-then-not-size_allowed
unfolding first_bad
returns-then-not-size_allowed c = bad_read _ _ Size (search tests)

pub returns-then-not-contains : goal.returns-then-not-contains
unfolding first_bad
returns-then-not-contains c =
    let t = period_told (goal.at.returns-then-not-contains c).After-contains in
    bad_read _ _ Period (search tests depth 7)

pub returns-then-not-contains-2 : goal.returns-then-not-contains-2
unfolding first_bad
returns-then-not-contains-2 c =
    let t = period_told (goal.at.returns-then-not-contains-2 c).After-contains in
    let d = deadline_told (goal.at.returns-then-not-contains-2 c).After-contains-2 in
    bad_read _ _ Deadline (search tests depth 7)

pub returns-then-deadline-jitter : goal.returns-then-deadline-jitter
unfolding first_bad
returns-then-deadline-jitter c =
    let t = period_told (goal.at.returns-then-deadline-jitter c).After-contains in
    let d = deadline_told (goal.at.returns-then-deadline-jitter c).After-contains-2 in
    bad_read _ _ Jitter (search tests depth 7)

pub returns : goal.returns
unfolding first_bad
returns c =
    let t = period_told (goal.at.returns c).After-contains in
    let d = deadline_told (goal.at.returns c).After-contains-2 in
    cc (good_read c.args.table.now c.args.i (search tests depth 7), c.from.ensures, c.length_of.ensures)
