-- A WINDOW OF KEYS, each with a mark, and another object whose keys are sought in it one after another (`Halves`): whichever way they are sought, each key of the window has its match at the end. Assumes nothing.
use Rattle.std.specs.Prelude.{◌≡◌, refl, List, [], ◌∷◌, ℕ, ◌+◌, ◌≤◌, ◌<◌, length, get_or, set}
use Rattle.std.proofs.Common.{sym, ap, subst, ◌∙◌, arith, get_or-set_same, get_or-set_other}
use native.Mathlib.Decide.{ℕ_discrete}
use Rattle.language.specs.Tree.{Tree, Field, field, size, text_of}
use Rattle.sound.specs.Standing.{At}
use Rattle.distinct.specs.Names.{spelt, Sits, sits_at, Twice}
use Rattle.overlay.specs.Overlay.{value, absent, value_of}
use Rattle.overlay.specs.Lists.{no_value, value_here, value_there}
use Rattle.lay.specs.Targets.{ceiling}
use Rattle.lay.specs.Matching.{Mark, mark_none, mark_some, row_of, row_none, row_some}

module _ (other words : List ℕ) (gs : List Field) where
  -- the match of the text s, where the pairs us are still to be sought: none so far, or this one and none of those
  pub data Half (us : List Field) (s : List ℕ) : ℕ → Type 0 where
    half_none : value_of s gs ≡ value_of s us → Half us s 0
    half_some : {m : ℕ} (w : Tree) → 0 < m → m + 1 + size w < ceiling → value_of s gs ≡ value w → At other words (m + 1) w → value_of s us ≡ absent → Half us s m

  pub half_end : {s : List ℕ} {m : ℕ} → Half [] s m → Mark other words gs s (row_of m)
  unfolding value_of
  half_end {s} (half_none e) = subst (Mark other words gs s) (sym (row_none refl)) (mark_none e)
  half_end {s} (half_some w o f e h a) = subst (Mark other words gs s) (sym (row_some (λ z. omega arith))) (mark_some w o f e h)

  module _ (key val : Tree) (us : List Field) (s : List ℕ) where
    -- a key with another text
    pub half_past : {m : ℕ} → (s ≡ text_of key → ⊥) → Half (field key val ∷ us) s m → Half us s m
    half_past n (half_none e) = half_none (e ∙ value_there s key val us n)
    half_past n (half_some w o f e h a) = half_some w o f e h (sym (value_there s key val us n) ∙ a)

    -- the key itself, in row r
    pub half_met : {m r : ℕ} → s ≡ text_of key → 0 < r → r + 1 + size val < ceiling → At other words (r + 1) val → value_of (text_of key) us ≡ absent → Half (field key val ∷ us) s m → Half us s r
    half_met q o f h a (half_none e) = half_some val o f (e ∙ value_here s key val us q) h (ap (λ (l : List ℕ). value_of l us) q ∙ a)
    half_met q o f h a (half_some w i j k l b) = absurd (no_value (value_here s key val us q) b)

  -- the first n keys of a window, and their marks
  module _ (text froms tos : List ℕ) (n : ℕ) where
    abbrev pub Halves : List ℕ → List Field → Type 0
    Halves marks us = (k : ℕ) → k < n → Half us (spelt text froms tos k) (get_or marks k 0)

    pub halves_start : (marks : List ℕ) → ((k : ℕ) → k < n → get_or marks k 0 ≡ 0) → Halves marks gs
    halves_start marks z k l = subst (Half gs (spelt text froms tos k)) (sym (z k l)) (half_none refl)

    pub halves_end : (marks : List ℕ) → Halves marks [] → (k : ℕ) → k < n → Mark other words gs (spelt text froms tos k) (row_of (get_or marks k 0))
    halves_end marks h k l = half_end (h k l)

    module _ (marks : List ℕ) (key val : Tree) (us : List Field) (h : Halves marks (field key val ∷ us)) where
      -- none of them has the key's text
      pub halves_past : (Sits text froms tos (text_of key) n → ⊥) → Halves marks us
      halves_past f k l = half_past key val us (spelt text froms tos k) (λ e. f (sits_at text froms tos k l (sym e))) (h k l)

      -- the j-th has it, and no other
      pub halves_met : (j r : ℕ) → j < n → n ≤ length marks → text_of key ≡ spelt text froms tos j → (Twice text froms tos n → ⊥) → 0 < r → r + 1 + size val < ceiling
          → At other words (r + 1) val → value_of (text_of key) us ≡ absent → Halves (set marks j r) us
      halves_met j r p q e u o f i a k l = by (ℕ_discrete j k)
        where
          twice : (c d : ℕ) → c < d → d < n → spelt text froms tos d ≡ spelt text froms tos c → Twice text froms tos n
          twice c d x y z = record { number = d; low = y; earlier = record { other = c; key = record { before = x; key = tt }; same = z } }

          apart : (j ≡ k → ⊥) → spelt text froms tos k ≡ text_of key → ⊥
          apart ne z = order (native.Mathlib.Decide.dec_lt j k)
            where
              order : Dec (j < k) → ⊥
              order (yes x) = u (twice j k x l (z ∙ e))
              order (no x) = u (twice k j (omega (arith, ne)) p (sym (z ∙ e)))

          by : Dec (j ≡ k) → Half us (spelt text froms tos k) (get_or (set marks j r) k 0)
          by (yes x) =
              subst (λ (c : ℕ). Half us (spelt text froms tos c) (get_or (set marks j r) c 0)) x
              (subst (Half us (spelt text froms tos j)) (sym (get_or-set_same marks j r 0 (omega arith))) (half_met key val us (spelt text froms tos j) (sym e) o f i a (h j p)))
          by (no x) = subst (Half us (spelt text froms tos k)) (sym (get_or-set_other marks j k r 0 (λ y. x (sym y)))) (half_past key val us (spelt text froms tos k) (apart x) (h k l))
