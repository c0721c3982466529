-- `part` stores a run of bytes, all of which have room.
use native.Mathlib.Omega.{arith}
use mathlib.Core.Path.{◌≡◌, refl, sym, ap, ◌∙◌}
use Prim.Native.Nat.{◌+◌, ◌-◌}
use Rattle.std.specs.Prelude.{drop, set}
use Rattle.std.proofs.Common.{ap₂, length-drop}
use Rattle.std.proofs.lemmas.List.{get_or-drop}
use Rattle.std.proofs.lemmas.List.Edits.{paste_none, paste_more, sets}
use lib.ListN.{length-set}
use Rattle.exact.specs.Place.{slice_at}
use Rattle.fields.specs.Spread.{pasted}
use Rattle.fields.proofs.part.Goals as goal

pub loop-i-init : goal.loop-i-init
loop-i-init c = let s = c.args in (paste_none s.out.now s.x (drop s.a s.text.now), refl)

pub loop-i-preserved : goal.loop-i-preserved
loop-i-preserved c =
    let l = c.loop-i in
    let s = c.args in
    let d = drop s.a s.text.now in (
      ap₂ (λ o b. set o (s.x + l.i) b) l.invariant.0 (sym (get_or-drop s.a s.text.now l.i 0))
          ∙ paste_more s.out.now s.x d l.i 0 (omega arith) (omega (arith, length-drop s.a s.text.now)),
      simp length-set l.invariant.1,
    )

pub returns : goal.returns
returns c =
    let l = c.loop-i in
    let s = c.args in
    let i : l.i ≡ s.e - s.a = omega arith in
    let e : s.a + (s.e - s.a) ≡ s.e = omega arith in
    rw i at l.invariant.0
    ∙ (pasted s.out.now (drop s.a s.text.now) s.x (s.e - s.a) (omega (arith, length-drop s.a s.text.now)) (omega arith)
    ∙ ap (sets s.out.now s.x) (slice_at s.a (s.e - s.a) s.text.now ∙ ap (λ k. Rattle.std.proofs.Math.Seq.slice s.a k s.text.now) e))
