-- FIRST BYTES of languages, and readers put together by them: one byte and then a language, a choice by the first byte. Assumes nothing.
use Rattle.std.specs.Prelude.{◌≡◌, refl, List, Bool, true, false, ℕ}
use Rattle.std.proofs.Common.{arith}
use Rattle.exact.specs.Class.{Class, is, apart, sub, starts_none, starts_inside, only, only_is}
use Rattle.exact.specs.Out.{Reader}
use Rattle.exact.specs.Lang.{Lang, Follow, Exact, within_same, weaken, Byte, byte_r, byte_exact}
use Rattle.exact.specs.Comb.{Seq, seq_r, seq_exact, Alt, alt_r, alt_exact, exact_iff, one, two}
use Rattle.exact.specs.Ll.{Shape, Ll, need_false}
use Rattle.blocktext.specs.Opens.{Opens, byte_opens, seq_opens, here_opens, alt_opens, ll_opens}

-- what is read by its bytes, and then a language that begins with none that would go on in it
pub ll_then : {X Y : Type 0} {e : ℕ} {σ : Shape} {A : Lang X} {B : X → Lang Y} {F : Follow} {r : Reader X} {q : X → Reader Y} (c : Class)
    → σ.null ≡ false → apart c σ.follow ≡ true → Ll σ A r → ((x : X) → Opens c (B x)) → ((x : X) → Exact e (B x) F (q x)) → Exact 1 (Seq A B) F (seq_r r q)
ll_then {σ = σ} {F = F} c n h l o x =
    weaken
    1
    F
    (omega (arith, need_false σ.null n))
    (within_same F)
    (seq_exact l.exact x (λ v at s y at' t b g z. starts_none c σ.follow s h ((o v).opens at s y at' t b) z))
