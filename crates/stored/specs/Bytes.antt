-- SOME BYTES STAND at a place of others (`At`), one run behind another. Assumes nothing.
use Rattle.std.specs.Prelude.{◌≡◌, List, ◌++◌, ℕ, ◌+◌, ◌≤◌, ◌<◌, length, get_or, take, drop}
use Rattle.std.proofs.Common.{sym, ap, subst, ◌∙◌, append_assoc, arith, take-append-drop, length-append, length-drop, drop_at, drop-drop, get_or-drop, length-take-le}
use Rattle.std.proofs.Math.ListN.{get_or-append}
use Rattle.std.proofs.Math.Seq.{slice, length-slice, take-append_seam, drop-append_seam}
use Rattle.std.proofs.lemmas.List.{drop-append-le}

module _ (stored : List ℕ) where
  pub record At (a : ℕ) (s : List ℕ) : Type 0 where
    pub behind : List ℕ
    pub is : drop a stored ≡ s ++ behind

  pub at_left : {a : ℕ} (s u : List ℕ) → At a (s ++ u) → At a s
  at_left s u x = record { behind = u ++ x.behind; is = x.is ∙ append_assoc s u x.behind }

  pub at_right : {a n : ℕ} (s u : List ℕ) → length s ≡ n → At a (s ++ u) → At (a + n) u
  at_right {a} {n} s u e x =
      record {
        behind = x.behind;
        is = sym (drop-drop n a stored) ∙ (ap (drop n) (x.is ∙ append_assoc s u x.behind) ∙ drop_at s (u ++ x.behind) n e);
      }

module _ {stored : List ℕ} where
  pub at_byte : {a : ℕ} (s : List ℕ) (i : ℕ) → At stored a s → i < length s → get_or stored (a + i) 0 ≡ get_or s i 0
  at_byte {a} s i x l = sym (get_or-drop a stored i 0) ∙ (ap (λ (l : List ℕ). get_or l i 0) x.is ∙ get_or-append s x.behind 0 i l)

  pub at_inside : {a : ℕ} (s : List ℕ) → At stored a s → a ≤ length stored → a + length s ≤ length stored
  at_inside {a} s x l = omega (arith, length-drop a stored, ap length x.is, length-append s x.behind)

  pub at_join : {a b : ℕ} (s u : List ℕ) → At stored a s → At stored b u → b ≡ a + length s → At stored a (s ++ u)
  at_join {a} {b} s u x y e =
      let z : x.behind ≡ u ++ y.behind =
      sym (drop-append_seam s x.behind) ∙ (ap (drop (length s)) (sym x.is) ∙ (drop-drop (length s) a stored ∙ (ap (λ (i : ℕ). drop i stored) (sym e) ∙ y.is))) in
      record { behind = y.behind; is = x.is ∙ (ap (λ (l : List ℕ). s ++ l) z ∙ sym (append_assoc s u y.behind)) }

  pub at_as : {a : ℕ} {s u : List ℕ} → s ≡ u → At stored a s → At stored a u
  at_as {a} e x = subst (At stored a) e x

  pub at_place : {a b : ℕ} {s : List ℕ} → a ≡ b → At stored a s → At stored b s
  at_place {s = s} e x = subst (λ (i : ℕ). At stored i s) e x

  -- a part, and bytes that are one
  pub slice_at : (a e : ℕ) → a ≤ e → e ≤ length stored → At stored a (slice a e stored)
  slice_at a e l m =
      let z : a ≤ length (take e stored) = omega (arith, length-take-le e stored m) in
      record {
        behind = drop e stored;
        is = ap (drop a) (sym (take-append-drop e stored)) ∙ drop-append-le a (take e stored) (drop e stored) z;
      }

  pub at_slice : {a e : ℕ} (s : List ℕ) → At stored a s → e ≡ a + length s → e ≤ length stored → slice a e stored ≡ s
  at_slice {a} {e} s x h l =
      let y = slice_at a e (omega arith) l in
      let n : length (slice a e stored) ≡ length s = omega (arith, length-slice a e stored l) in
      let z : slice a e stored ++ y.behind ≡ s ++ x.behind = sym y.is ∙ x.is in
      sym (take-append_seam (slice a e stored) y.behind) ∙ (ap (λ (i : ℕ). take i (slice a e stored ++ y.behind)) n ∙ (ap (take (length s)) z ∙ take-append_seam s x.behind))
