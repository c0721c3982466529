-- The machine's words are the characters of 01, given by their scalar values and `utf8`: the reader is exact for `Char`. Assumes nothing.
use Rattle.std.specs.Prelude.{◌≡◌, refl, List, [], ◌∷◌, ◌++◌, ℕ, suc, ◌+◌, length}
use Rattle.std.proofs.Common.{ap, subst, ◌∙◌, arith}
use Rattle.exact.specs.Class.{Class}
use Rattle.exact.specs.Comb.{exact_iff}
use Rattle.exact.specs.Ll.{Ll}
use Rattle.exact.specs.Run.{Run, past, run_of, run_full, stay, ahead}
use Rattle.language.specs.Characters.{Char, char, utf8}
use Rattle.utf8.specs.Utf8.{At, live, full, next, start, Spelt, spelt_ll}
use Rattle.utf8.specs.Spelling.{utf8_full}
use Rattle.utf8.proofs.SpellingLaws.{spell}
use Rattle.utf8.specs.Utf8.{char_r, char_s}
use Rattle.utf8.specs.Char.{char_spelt, run_shape}

module _ (plain : Class) where
  pub spelt_char : {at : ℕ} {s w : List ℕ} {at' : ℕ} {t : List ℕ} → Spelt plain at s w at' t → Char plain at s w at' t
  spelt_char {at} {s} {w} {at'} {t} x =
      let h = (run_shape plain) x in
      let p = spell plain w (run_full (next plain) full live x) in
      let u : Char plain at (w ++ t) w (at + length w) t = subst (λ u. Char plain at (u ++ t) u (at + length u) t) p.bytes (char p.value p.allowed) in
      rw (h.0, h.1) u

  pub char_ll : Ll (char_s plain) (Char plain) (char_r plain)
  char_ll =
      let l = spelt_ll plain in
      record {
        exact = exact_iff (λ at s v at' t x. spelt_char x) (λ at s v at' t x. (char_spelt plain) x) l.exact;
        begun = λ at s v at' t x. l.begun at s v at' t ((char_spelt plain) x);
        firm = l.firm;
      }
