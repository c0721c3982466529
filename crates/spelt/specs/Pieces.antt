-- A PIECE OF A STRING, an escape or a character, stands for at least one byte and at most five. Assumes nothing.
use Rattle.std.specs.Prelude.{◌≡◌, refl, List, [], ◌∷◌, Bool, true, false, ℕ, suc, ◌≤◌, ◌<◌, length, leb}
use Rattle.std.proofs.Common.{sym, subst, arith}
use Rattle.language.specs.Characters.{utf8}
use Rattle.language.specs.Strings.{lettered, hex_number}
use Rattle.language.specs.Tree.{Decoded, unescaped}
use Rattle.exact.specs.Class.{Class, pick, is, only}
use Rattle.exact.specs.Out.{Out, ok, soft, bad, fmap}
use Rattle.exact.specs.Lang.{byte_r}
use Rattle.exact.specs.Comb.{map_r}
use Rattle.exact.specs.Ll.{word_r}
use Rattle.exact.specs.Run.{steps, run_l}
use Rattle.utf8.specs.Utf8.{At, live, full, next, start, char_r}
use Rattle.utf8.proofs.SpellingLaws.{spell}
use Rattle.characters.specs.Plains.{Quote, double, single, plain_of}
use Rattle.strings.specs.Code.{code_r}
use Rattle.strings.specs.Quoted.{letter_r, braced_r, coded_r, escape_r, singled, itself_r, unsingle, unescaped_r, single_escape_r}
use Rattle.strings.specs.Inside.{escapes_r, special_r}
use Rattle.named.specs.Gives.{Gives, gives_ok, gives_soft}
use Rattle.named.specs.Every.{Every, Always, every_ok, every_alt, every_bind, every_with}

-- so many bytes
pub record Few (n : ℕ) (s : List ℕ) : Type 0 where
  pub some : 0 < length s
  pub few : length s ≤ n

pub utf8_few : (v : ℕ) → Few 4 (utf8 v)
utf8_few v =
    by
    (leb v 127)
    (leb v 2047)
    (leb v 65535)
    (record { some = omega arith; few = omega arith })
    (record { some = omega arith; few = omega arith })
    (record { some = omega arith; few = omega arith })
    (record { some = omega arith; few = omega arith })
  where
    by : (x y z : Bool) {a b c d : List ℕ} → Few 4 a → Few 4 b → Few 4 c → Few 4 d → Few 4 (pick x a (pick y b (pick z c d)))
    by true y z k l m n = k
    by false true z k l m n = l
    by false false true k l m n = m
    by false false false k l m n = n

-- ---- a character's word leads to the end

module _ (c : Class) where
  stuck : (σ : At) (at : ℕ) (s : List ℕ) → Every (λ w a. full (steps (next c) full live σ w) ≡ true) (pick (full σ) (ok [] at s) (bad at))
  stuck σ at s = by (full σ) refl
    where
      by : (x : Bool) → full σ ≡ x → Every (λ w a. full (steps (next c) full live σ w) ≡ true) (pick x (ok [] at s) (bad at))
      by true e = every_ok e
      by false e = record { holds = λ w a g. elim g [ ] }

  word_full : (s : List ℕ) (σ : At) (at : ℕ) → Every (λ w a. full (steps (next c) full live σ w) ≡ true) (run_l (next c) full live s σ at)
  word_full [] σ at = stuck σ at []
  word_full (b ∷ s) σ at = by (live (next c σ b)) (word_full s (next c σ b) (suc at))
    where
      front : (o : Out (List ℕ)) → Every (λ w a. full (steps (next c) full live (next c σ b) w) ≡ true) o → Every (λ w a. full (steps (next c) full live σ w) ≡ true) (fmap (b ∷◌) o)
      front (ok w a t) h = every_ok (h.holds w a gives_ok)
      front (soft p w a t) h = record { holds = λ v n g. go v n g (h.holds w a gives_soft) }
        where
          go : (v : List ℕ) (n : ℕ) → Gives (soft p (b ∷ w) a t) v n → full (steps (next c) full live (next c σ b) w) ≡ true → full (steps (next c) full live σ v) ≡ true
          go v n gives_soft k = k
      front (bad p) h = record { holds = λ w a g. elim g [ ] }

      by : (x : Bool) → Every (λ w a. full (steps (next c) full live (next c σ b) w) ≡ true) (run_l (next c) full live s (next c σ b) (suc at))
          → Every (λ w a. full (steps (next c) full live σ w) ≡ true) (pick x (fmap (b ∷◌) (run_l (next c) full live s (next c σ b) (suc at))) (pick (full σ) (ok [] at (b ∷ s)) (bad at)))
      by true h = front (run_l (next c) full live s (next c σ b) (suc at)) h
      by false h = stuck σ at (b ∷ s)

  char_few : (at : ℕ) (s : List ℕ) → Always (Few 4) (char_r c at s)
  char_few at s =
      record {
        holds = λ w a g.
            let p = spell c w ((word_full s start at).holds w a g) in
            subst (Few 4) p.bytes (utf8_few p.value);
      }

-- ---- a piece

abbrev Short : Decoded → Type 0
Short d = Few 5 d.bytes

chars_few : (c : Class) (at : ℕ) (s : List ℕ) → Always Short (map_r unescaped (char_r c) at s)
chars_few c at s = every_with (char_r c at s) _ (char_few c at s) (λ w a h t. every_ok (record { some = h.some; few = omega (arith, h.few) }))

letter_few : (at : ℕ) (s : List ℕ) → Always Short (letter_r at s)
letter_few at s = every_bind (byte_r (is lettered) at s) _ (λ b a t. every_ok (record { some = omega arith; few = omega arith }))

braced_few : (at : ℕ) (s : List ℕ) → Always Short (braced_r at s)
braced_few at s =
    every_bind (code_r at s) _ (λ ds a t. every_bind (byte_r (is (only 125)) a t) _ (λ b e u. let h = utf8_few (hex_number 0 ds) in every_ok (record { some = h.some; few = omega (arith, h.few) })))

escape_few : (at : ℕ) (s : List ℕ) → Always Short (escape_r at s)
unfolding escape_r
escape_few at s =
    every_bind (byte_r (is (only 92)) at s) _
    (λ b a t. every_alt (is lettered) letter_r coded_r a t letter_few (λ n u. every_bind (word_r (117 ∷ 123 ∷ []) n u) _ (λ x e v. braced_few e v)))

single_few : (at : ℕ) (s : List ℕ) → Always Short (single_escape_r at s)
unfolding single_escape_r
single_few at s =
    every_bind (byte_r (is (only 92)) at s) _
    (λ b a t.
    every_alt (is singled) itself_r unescaped_r a t
    (λ n u. every_bind (byte_r (is singled) n u) _ (λ c e v. every_ok (record { some = omega arith; few = omega arith })))
    (λ n u. every_with (char_r unsingle n u) _ (char_few unsingle n u) (λ w e h v. every_ok (record { some = omega arith; few = omega (arith, h.few) }))))

escapes_few : {q : ℕ} → Quote q → (at : ℕ) (s : List ℕ) → Always Short (escapes_r q at s)
escapes_few double at s = escape_few at s
escapes_few single at s = single_few at s

pub piece_few : {q : ℕ} → Quote q → (at : ℕ) (s : List ℕ) (d : Decoded) (n : ℕ) (t : List ℕ) → special_r q at s ≡ ok d n t → Few 5 d.bytes
piece_few {q} k at s d n t e =
    (every_alt (is (only 92)) (escapes_r q) (map_r unescaped (char_r (plain_of q))) at s (escapes_few k) (chars_few (plain_of q))).holds d n
    (subst (λ (o : Out Decoded). Gives o d n) (sym e) gives_ok)
