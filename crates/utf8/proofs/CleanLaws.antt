-- Languages of whole allowed characters, and that the combinators make such of such. Assumes nothing.
use Rattle.std.specs.Prelude.{◌≡◌, refl, List, [], ◌∷◌, ◌++◌, ◌⊎◌, Bool, true, false, ℕ, zero, suc, leb}
use Rattle.std.proofs.Common.{inl, inr}
use Rattle.notation.specs.Lang.{Here, here, Word, Plus, Map, Such, Indented}
use Rattle.exact.specs.Verdict.{Tail, Begins}
use Rattle.exact.specs.Class.{pick, clash, Class, and, or, is, apart, and_of, or_of, none, is_right, sub, inside, only}
use Rattle.exact.specs.Lang.{Lang, Then, Ret, Byte, End, ret, byte, end}
use Rattle.exact.specs.Comb.{Seq, Alt, Star, one, two, nil, cons}
use Rattle.exact.specs.Run.{Run, Laws, lives, stay, ahead}
use Rattle.exact.specs.Grow.{Sub}
use Rattle.language.specs.Characters.{ascii, Char, char, character, wide, Allowed}
use Rattle.utf8.specs.Char.{char_spelt}
use Rattle.utf8.specs.Utf8.{At, Arrow, table, follow, full, Classes, start, ◌to-be◌}
use Rattle.utf8.specs.Whole.{every, step, scan, whole, from_full, whole_run}
use Rattle.utf8.proofs.WholeLaws.{whole_allowed}
use Rattle.utf8.specs.Clean.{Clean}

-- what begins a word of a clean language, and what is whole characters after it, begins a sequence of allowed characters
pub clean_begins : {X W : Type 0} {A : Lang X} (K : X → ℕ → Tail W) (at : ℕ) (u : List ℕ) → Clean A
    → ((v : X) (a : ℕ) (t : List ℕ) (w : W) → K v a t w → whole (scan start t) ≡ true) → Begins (Then A K at) u → Begins Allowed u
clean_begins K at u c k b =
    let x = b.word in
    let a = whole_allowed (u ++ b.more) (c.clean x.first (k x.value x.next x.rest b.value x.others)) in
    record { more = b.more; value = a.0; word = a.1 }
