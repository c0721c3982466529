-- `is_scalar` tells the text of a scalar of the kind. Assumes nothing.
use native.Mathlib.Omega.{arith}
use Rattle.texts.specs.Scalars.{scalar_integer, scalar_float, scalar_string, scalar_bytes, scalar_bare, scalar_low, scalar_high}
use Rattle.texts.proofs.is_scalar.Goals as goal

pub returns-in-1-to-3 : goal.returns-in-1-to-3
returns-in-1-to-3 g c = scalar_bare c.args.kind (g.S.Text.bytes c.args.s) c.count-n.result (omega arith) (omega arith) c.count-n.ensures.count

pub returns-in-4 : goal.returns-in-4
returns-in-4 g c = scalar_integer c.args.kind (g.S.Text.bytes c.args.s) c.is_integer.result c.in-4.is c.is_integer.ensures

pub returns-in-5 : goal.returns-in-5
returns-in-5 g c = scalar_float c.args.kind (g.S.Text.bytes c.args.s) c.is_float.result c.in-5.is c.is_float.ensures

pub returns-in-6 : goal.returns-in-6
returns-in-6 g c = scalar_string c.args.kind (g.S.Text.bytes c.args.s) c.is_script.result c.in-6.is c.is_script.ensures

pub returns-in-7 : goal.returns-in-7
returns-in-7 g c = scalar_bytes c.args.kind (g.S.Text.bytes c.args.s) c.in-7.is c.count-n.ensures.octets

pub returns-in_default : goal.returns-in_default
returns-in_default g c = scalar_low (omega arith)

pub returns-in_default-2 : goal.returns-in_default-2
returns-in_default-2 g c = let m = c.in_default.in_default-own.rest in scalar_high (omega arith) m.0.0.0.1 m.0.0.1 m.0.1 m.1
