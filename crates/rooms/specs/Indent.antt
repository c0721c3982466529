-- Laws of the spaces before a line, as a loop over them says it. Assumes nothing.
use Rattle.std.specs.Prelude.{◌≡◌, List, [], ◌∷◌, Bool, true, false, ℕ, zero, suc, ◌+◌, ◌-◌, ◌≤◌, ◌<◌, min, length, get_or, drop}
use Rattle.std.proofs.Math.Path.{refl}
use Rattle.std.proofs.Common.{sym, ap, subst, add-zero, zero-add, add-one}
use native.Mathlib.Omega.{arith}
use Rattle.exact.specs.Class.{pick, is, only, only_eq}
use Rattle.exact.specs.Block.{lead}
use native.Mathlib.Decide.{dec_le}
use Rattle.exact.specs.Place.{common, common_end, common_over, peek, peek_in, There, there, byte_there, none_there}
use Rattle.exact.specs.Lines.{spaces, spaces_more, spaces_other, spaces_over}
use Rattle.rooms.specs.declared.Cursor.{Cursor}
use Rattle.std.specs.declared.option.Option.TheVariants.{Some}
use Rattle.rooms.specs.Contract.{onward, Stepped}

pub indent_first : (doc : List ℕ) (at n : ℕ) → spaces n (drop at doc) ≡ 0 + spaces (n - 0) (drop (at + 0) doc)
indent_first doc at n = let z : n - 0 ≡ n = omega arith in rw (z, add-zero at) (sym (zero-add (spaces n (drop at doc))))

module _ (doc : List ℕ) (at n i : ℕ) (inv : spaces n (drop at doc) ≡ i + spaces (n - i) (drop (at + i) doc)) where
  pub indent_all : n ≤ i → i ≡ spaces n (drop at doc)
  unfolding spaces
  indent_all l = let z : n - i ≡ 0 = omega arith in let y : spaces (n - i) (drop (at + i) doc) ≡ 0 = rw z refl in omega arith

  pub indent_over : i < n → length doc ≤ at + i → i ≡ spaces n (drop at doc)
  indent_over l h =
      let z : n - i ≡ suc (n - i - 1) = omega arith in
      let y : spaces (n - i) (drop (at + i) doc) ≡ 0 = rw z (spaces_over (n - i - 1) (at + i) doc h) in
      omega arith

  pub indent_other : i < n → at + i < length doc → (get_or doc (at + i) 0 ≡ 32 → ⊥) → i ≡ spaces n (drop at doc)
  indent_other l h k =
      let z : n - i ≡ suc (n - i - 1) = omega arith in
      let y : spaces (n - i) (drop (at + i) doc) ≡ 0 = rw z (spaces_other (n - i - 1) (at + i) doc h k) in
      omega arith

  pub indent_more : i < n → at + i < length doc → get_or doc (at + i) 0 ≡ 32 → spaces n (drop at doc) ≡ i + 1 + spaces (n - (i + 1)) (drop (at + (i + 1)) doc)
  indent_more l h k =
      let z : n - i ≡ suc (n - (i + 1)) = omega arith in
      let q : at + i + 1 ≡ at + (i + 1) = omega arith in
      let y : spaces (n - i) (drop (at + i) doc) ≡ suc (spaces (n - (i + 1)) (drop (at + (i + 1)) doc)) = rw (z, ← q) (spaces_more (n - (i + 1)) (at + i) doc h k) in
      omega arith

  pub indent_done : at ≤ length doc → i ≡ min n (length doc - at) → i ≡ spaces n (drop at doc)
  indent_done h e = by (dec_le n i)
    where
      by : Dec (n ≤ i) → i ≡ spaces n (drop at doc)
      by (yes l) = indent_all l
      by (no l) = indent_over (omega arith) (omega arith)

-- .. and of the bytes of a word
pub common_done : (w doc : List ℕ) (at n : ℕ) → at ≤ length doc → n ≡ min (length w) (length doc - at) → common (drop n w) (drop (at + n) doc) ≡ 0
common_done w doc at n h e = by (dec_le (length w) n)
  where
    by : Dec (length w ≤ n) → common (drop n w) (drop (at + n) doc) ≡ 0
    by (yes l) = common_end w doc n (at + n) l
    by (no l) = common_over w doc n (at + n) (omega arith) (omega arith)

pub spaces_lead : (n : ℕ) (s : List ℕ) → spaces n s ≡ lead n s
unfolding spaces
spaces_lead zero s = refl
spaces_lead (suc n) [] = refl
spaces_lead (suc n) (b ∷ s) = ap (λ k. pick (is (only 32) b) (suc k) 0) (spaces_lead n s)

-- A COUNT OF SPACES is as many steps, each with a space
pub data Spaces (doc : List ℕ) : Cursor → ℕ → Type 0 where
  no_space : {c : Cursor} → Spaces doc c 0
  a_space : {c n : Cursor} {i : ℕ} → Stepped doc c (Some (32, n)) → Spaces doc n i → Spaces doc c (suc i)

pub indent_steps : (doc : List ℕ) (n : ℕ) (c : Cursor) → Spaces doc c (lead n (drop c.at doc))
unfolding Stepped
indent_steps doc zero c = no_space
indent_steps doc (suc n) c = by (there doc c.at) (indent_steps doc n (onward c 1))
  where
    on : (x : Bool) → is (only 32) (peek doc c.at) ≡ x → Spaces doc (onward c 1) (lead n (drop (c.at + 1) doc))
        → Spaces doc c (pick x (suc (lead n (drop (suc c.at) doc))) 0)
    on true e ih =
        let s : 32 ≡ peek doc c.at = sym (only_eq 32 (peek doc c.at) e) in
        a_space {n = onward c 1} (peek_in doc c.at 32 s (omega arith), s, refl) (subst (Spaces doc (onward c 1)) (ap (λ k. lead n (drop k doc)) (add-one c.at)) ih)
    on false e ih = no_space

    by : There doc c.at → Spaces doc (onward c 1) (lead n (drop (c.at + 1) doc)) → Spaces doc c (lead (suc n) (drop c.at doc))
    by (byte_there h) ih = rw h (on (is (only 32) (peek doc c.at)) refl ih)
    by (none_there h k) ih = rw h no_space
