use Rattle.std.proofs.Common.{◌≡◌, ℕ, [], IfOk, Ok, Err, vec_items, Result, Vec, sym, ap, ◌∙◌, subst}
use Rattle.std.specs.declared.alloc.AllocError.{AllocError}
use Rattle.std.specs.declared.alloc.Global.{Global}
use Rattle.network.specs.Values.{value}
use Rattle.network.specs.declared.net.Multicast.{Multicast as Net}
use Rattle.network.proofs.Sound.{accepted}
use Rattle.wire.specs.Plan.{Plan, Fits}
use Rattle.wire.specs.Format.{got, plan_bytes, read_plan}
use Rattle.wire.specs.Values.{plan}
use Rattle.wire.proofs.Fitting.{short-rows}
use Rattle.wire.proofs.Whole.{read_back}
use Rattle.wire.proofs.writer.write.Goals as goal

-- what has the bytes of a plan that fits is read back as the plan
reads-back : (net : Net) (p : Plan) → Fits (value net) p → (r : Result (Vec ℕ Global) AllocError) → IfOk r (λ v. vec_items v ≡ plan_bytes p)
    → IfOk r (λ v. (at : ℕ) × (read_plan (value net) (vec_items v) ≡ got p at []))
reads-back net p fits (Ok v) e = let b = read_back (value net) (accepted net) p fits in (b.0, ap (read_plan (value net)) e ∙ b.1)
reads-back net p fits (Err x) e = tt

pub write_served-requires : goal.write_served-requires
write_served-requires c =
    let net = c.args.fitted.now.net.now in
    short-rows (value net) (accepted net) _ (subst (λ x. Fits (value net) (plan x)) c.in-Served.is c.args.fitted.now.fits).0

pub returns-in-Served : goal.returns-in-Served
returns-in-Served c =
    let net = c.args.fitted.now.net.now in
    let bytes = subst (λ x. IfOk c.write_served.result (λ v. vec_items v ≡ plan_bytes (plan x))) (sym c.in-Served.is) c.write_served.ensures in
    record { bytes = bytes; back = reads-back net (plan c.args.fitted.now.plan.now) c.args.fitted.now.fits c.write_served.result bytes }

pub returns-in-Unserved : goal.returns-in-Unserved
returns-in-Unserved c =
    let net = c.args.fitted.now.net.now in
    let bytes = subst (λ x. IfOk c.write_cut.result (λ v. vec_items v ≡ plan_bytes (plan x))) (sym c.in-Unserved.is) c.write_cut.ensures in
    record { bytes = bytes; back = reads-back net (plan c.args.fitted.now.plan.now) c.args.fitted.now.fits c.write_cut.result bytes }
