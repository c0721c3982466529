-- WORDS THAT STAND IN A LIST from a place on. Assumes nothing.
use Rattle.std.specs.Prelude.{◌≡◌, refl, List, [], ◌++◌, ℕ, ◌+◌, ◌≤◌, ◌<◌, length, get_or, take, drop}
use Rattle.std.proofs.Common.{sym, ap, ◌∙◌, append_assoc, arith, length-append, drop_at, get_or-append-add}
use Rattle.std.proofs.Math.ListN.{get_or-append}
use Rattle.std.proofs.Math.Seq.{take-append_seam}

-- vs stand in l from i on
pub record Stands (l : List ℕ) (i : ℕ) (vs : List ℕ) : Type 0 where
  pub before : List ℕ
  pub rest : List ℕ
  pub is : l ≡ before ++ (vs ++ rest)
  pub at : length before ≡ i

pub stands_first : (vs rest : List ℕ) → Stands (vs ++ rest) 0 vs
stands_first vs rest = record { before = []; rest = rest; is = refl; at = refl }

module _ {l : List ℕ} {i : ℕ} (us vs : List ℕ) (h : Stands l i (us ++ vs)) where
  pub stands_left : Stands l i us
  stands_left = record { before = h.before; rest = vs ++ h.rest; is = h.is ∙ ap (h.before ++◌) (append_assoc us vs h.rest); at = h.at }

  pub stands_right : (j : ℕ) → j ≡ i + length us → Stands l j vs
  stands_right j e =
      record {
        before = h.before ++ us;
        rest = h.rest;
        is = h.is ∙ simp append_assoc;
        at = length-append h.before us ∙ omega (arith, h.at);
      }

module _ {l : List ℕ} {i : ℕ} {vs : List ℕ} (h : Stands l i vs) where
  pub stands_fits : i + length vs ≤ length l
  stands_fits = omega (arith, ap length h.is, length-append h.before (vs ++ h.rest), length-append vs h.rest, h.at)

  pub stands_word : (j : ℕ) → j < length vs → get_or l (i + j) 0 ≡ get_or vs j 0
  stands_word j k =
      ap (λ (m : List ℕ). get_or m (i + j) 0) h.is
      ∙ (ap (λ (n : ℕ). get_or (h.before ++ (vs ++ h.rest)) (n + j) 0) (sym h.at)
      ∙ (get_or-append-add h.before (vs ++ h.rest) j 0 ∙ get_or-append vs h.rest 0 j k))

  pub stands_part : take (length vs) (drop i l) ≡ vs
  stands_part =
      ap (λ (m : List ℕ). take (length vs) (drop i m)) h.is
      ∙ (ap (take (length vs)) (drop_at h.before (vs ++ h.rest) i h.at) ∙ take-append_seam vs h.rest)
