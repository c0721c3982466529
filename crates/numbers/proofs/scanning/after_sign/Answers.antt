-- `after_sign` meets its contract: a sign is taken, or none stands there.
use Rattle.std.proofs.Common.{inl, inr}
use Rattle.numbers.proofs.TakeLaws.{sign_laws}
use Rattle.numbers.proofs.scanning.after_sign.Goals as goal

pub returns-in-Some-eq43-default : goal.returns-in-Some-eq43-default
returns-in-Some-eq43-default c = elim c.in-Some-eq43-default.field-0-0-test [ inl h ↦ search sign_laws | inr h ↦ search sign_laws ]
