-- What a row adds within w meets its contract: no sum and no product wraps. Assumes nothing.
use Rattle.std.specs.Prelude.{◌≡◌, ◌+◌, ◌*◌, ◌≤◌}
use Rattle.std.proofs.Common.{arith, sym, ap₂, le_trans, ◌∙◌}
use Rattle.std.proofs.Math.Nat.{mul-le-mul}
use Rattle.sums.specs.Sums.{ceil}
use Rattle.sums.specs.Quotient.{ceil_next, ceil_bound}
use Rattle.sums.proofs.WithinAdds.of.Goals as goal
use Rattle.sums.proofs.WithinAdds.of.Goals.{After-from-2}

-- the product is C times the rounded-up quotient
product : (c : After-from-2) → let r = c.args.row.now in c.from.result * c.from-2.result ≡ r.length * ceil (c.args.self.now.w + r.jitter + 1) r.period
product c =
    let r = c.args.row.now in
    ap₂ ◌*◌ c.from.ensures (c.from-2.ensures ∙ sym (ceil_next (c.args.self.now.w + r.jitter) r.period c.requires.t_least))

bound : (c : After-from-2) → c.from.result * c.from-2.result ≤ 8192004096
bound c =
    let r = c.args.row.now in
    let q : ceil (c.args.self.now.w + r.jitter + 1) r.period ≤ 2000001 = le_trans (ceil_bound _ _ c.requires.t_least) (omega (arith, c.args.self.now.small, c.requires.j_most)) in
    rw (product c) (mul-le-mul c.requires.c_most q)

pub returns : goal.returns
returns c = (product (goal.at.returns c).After-from-2, bound (goal.at.returns c).After-from-2)
