-- `body` meets its contract: up to a its lines were read.
use Rattle.std.proofs.lemmas.Result.{err_from_is_err_and}
use native.Mathlib.Omega.{arith}
use Rattle.blocktext.proofs.BodyLaws.{blank_further, text_deep, text_inner, text_further, bodying}
use Rattle.blocktext.proofs.body.body.Goals as goal

pub returns-in_err-n : goal.returns-in_err-n
returns-in_err-n c =
    let p = err_from_is_err_and c.from_residual.result c.from_residual.ensures.1 in
    rw (p.1, p.2) (search (bodying, c.in_err-n.was))

pub loop-n-smaller-in-Empty : goal.loop-n-smaller-in-Empty
loop-n-smaller-in-Empty c = blank_further _ _ _ _ _ _ c.loop-n.invariant _ c.body_line.ensures c.in-Empty.n (cc c.in_ok-n.was)

pub overflow_sub-s : goal.overflow_sub-s
overflow_sub-s c = text_deep _ _ _ _ _ _ c.loop-n.invariant _ c.body_line.ensures c.in-Written.s c.in-Written.f (cc c.in_ok-n.was)

pub overflow_add-a-in-Written-3 : goal.overflow_add-a-in-Written-3
overflow_add-a-in-Written-3 c = record { fits = omega (arith, text_inner _ _ _ _ _ _ c.loop-n.invariant _ c.body_line.ensures c.in-Written.s c.in-Written.f (cc c.in_ok-n.was)) }

pub loop-n-smaller : goal.loop-n-smaller
loop-n-smaller c = text_further _ _ _ _ _ _ c.loop-n.invariant _ c.body_line.ensures c.in-Written.s c.in-Written.f (cc c.in_ok-n.was)
