-- `all` writes a text whole, as far as there is room for it.
use mathlib.Core.Path.{◌≡◌, refl, ap, ◌∙◌}
use Prim.Native.Nat.{◌+◌}
use native.Mathlib.Omega.{arith}
use borrow.Author.Rules.{rules}
use lib.ListN.{length-set}
use Rattle.std.specs.Prelude.{set, get_or}
use Rattle.std.proofs.lemmas.List.Edits.{paste_none, paste_more}
use Rattle.writer.specs.Puts.{all_none, all_put}
use Rattle.writer.proofs.marks.all.Goals as goal

pub returns-then-out-x : goal.returns-then-out-x
returns-then-out-x c = search (all_none, rules)

pub loop-i-init : goal.loop-i-init
loop-i-init c = let s = c.args in (paste_none s.out.now s.x s.text.now, refl)

pub loop-i-preserved : goal.loop-i-preserved
loop-i-preserved c =
    let l = c.loop-i in
    let s = c.args in
    (ap (λ o. set o (s.x + l.i) (get_or s.text.now l.i 0)) l.invariant.0 ∙ paste_more s.out.now s.x s.text.now l.i 0 (omega (arith, c.min-n.ensures)) (omega (arith, c.min-n.ensures)), simp length-set l.invariant.1)

pub returns : goal.returns
returns c =
    let l = c.loop-i in
    let i : l.i ≡ c.min-n.result = omega arith in
    all_put _ _ _ _ _ _ refl (omega arith) c.min-n.ensures (rw i at l.invariant.0)
