use Rattle.std.proofs.Common.{inl}
use Rattle.gf_bytes.proofs.vector.Vector.unit.Goals as goal

pub returns-in_err-v : goal.returns-in_err-v
returns-in_err-v c = simp c.from_residual.ensures (inl c.in_err-v.ensures)
