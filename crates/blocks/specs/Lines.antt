-- LINES: one here and further ones each on n spaces, read by a look at the indentation. Exact before `lines n`; more allowance. Assumes nothing.
use Rattle.std.specs.Prelude.{◌≡◌, List, [], ◌∷◌, true, ℕ, suc}
use Rattle.std.proofs.Common.{arith}
use Rattle.language.specs.Blocks.{Lines}
use Rattle.exact.specs.Verdict.{Tail}
use Rattle.exact.specs.Class.{Class, is, apart, only}
use Rattle.exact.specs.Out.{Reader, Tame}
use Rattle.exact.specs.Lang.{Lang, Then, Fits, Exact, within_same, weaken, Ret, ret}
use Rattle.exact.specs.Comb.{seq_r, map_r, seq_tame, seq_fits, Map, map_exact, Star, nil, cons}
use Rattle.exact.specs.Ll.{ret_ll}
use Rattle.exact.specs.Block.{star_g_tame, Indented, ind, lead, lead_near}
use Rattle.exact.specs.Grow.{Sub, sub_refl, seq_sub, star_sub, indented_sub}
use Rattle.exact.specs.More.{OneMore, tame_any, steady, calm, seq_more, star_g_more, indented_more, Shuts}
use Rattle.blocktext.specs.Follow.{beyond, lines, beyond_lines}
use Rattle.blocktext.specs.Opens.{Opens}
use Rattle.blocktext.specs.Further.{further_r, further_avoids, further_keeps, further_exact}

unfoldable pub lines_r : {X : Type 0} → Class → ℕ → Reader X → Reader (List X)
lines_r c n r = seq_r r λ v. map_r (v ∷◌) (further_r c n r)

module _ {X : Type 0} {A : Lang X} {r : Reader X} (c : Class) (solid : apart c (only 32) ≡ true) (dry : apart c (only 10) ≡ true) (opens : Opens c A) (shuts : Shuts c r)
    (n : ℕ) (ea : Exact 1 A (beyond n) r) where
  avoids : (at : ℕ) (s : List ℕ) (v : X) (at' : ℕ) (t : List ℕ) → Indented n A at s v at' t → (beyond n).bars s → ⊥
  avoids = further_avoids c solid dry opens shuts n ea

  keeps : (at b : ℕ) (s : List ℕ) (v : X) (at' : ℕ) (t : List ℕ) → Indented n A at (b ∷ s) v at' t → is (only 10) b ≡ true → ⊥
  keeps = further_keeps c solid dry opens shuts n ea

  -- there is some A
  some : X
  some = (ea.some {W = ℕ} (λ v a t w. Unit {0}) (λ v a. record { more = []; value = 0; word = tt }) 0).word.value

  lines_fits : (W : Type 0) (K : List X → ℕ → Tail W) → Fits (lines n) K → Fits (beyond n) (λ v. Then (Map (v ∷◌) (Star (Indented n A))) K)
  lines_fits W K fi =
      record {
        clear = λ v a t w x d. not v a t w d x.first.first x.first.second x.others;
        gives = λ v a b t w x e. go v a b t w e x.first.first x.first.second x.others;
      }
    where
      not : (v : X) (a : ℕ) (t : List ℕ) (w : W) → (beyond n).bars t → {vs : List X} {a₁ a₂ : ℕ} {t₁ t₂ : List ℕ} {y : List X} → Star (Indented n A) a t vs a₁ t₁
          → Ret (v ∷ vs) a₁ t₁ y a₂ t₂ → K y a₂ t₂ w → ⊥
      not v a t w d nil ret z = fi.clear _ a t w z ((beyond_lines n).barred t d)
      not v a t w d (cons {v = u} {at₁ = a₁} {s₁ = s₁} x y) q z = avoids a t u a₁ s₁ x d

      go : (v : X) (a b : ℕ) (t : List ℕ) (w : W) → is (only 10) b ≡ true → {vs : List X} {a₁ a₂ : ℕ} {t₁ t₂ : List ℕ} {y : List X} → Star (Indented n A) a (b ∷ t) vs a₁ t₁
          → Ret (v ∷ vs) a₁ t₁ y a₂ t₂ → K y a₂ t₂ w → Then (Map (v ∷◌) (Star (Indented n A))) K (suc a) t w
      go v a b t w e nil ret z =
          record {
            value = v ∷ [];
            next = suc a;
            rest = t;
            first = record { value = []; middle = suc a; rest = t; first = nil; second = ret };
            others = fi.gives _ a b t w z e;
          }
      go v a b t w e (cons {v = u} {at₁ = a₁} {s₁ = s₁} x y) q z = absurd (keeps a b t u a₁ s₁ x e)

  pub lines_exact : Exact 1 (Lines n A) (lines n) (lines_r c n r)
  unfolding lines_r
  lines_exact =
      weaken
      1
      (lines n)
      (omega arith)
      (within_same (lines n))
      (seq_fits ea (λ v. map_exact (v ∷◌) (further_exact c solid dry opens shuts n ea some)) lines_fits)

pub lines_more : {X : Type 0} (c : Class) (n : ℕ) {r₀ r₁ r₂ : Reader X} → OneMore r₀ r₁ r₂ → OneMore (lines_r c n r₀) (lines_r c n r₁) (lines_r c n r₂)
unfolding lines_r
lines_more c n e = seq_more e λ v. seq_more (star_g_more (indented_more n e) (ind (is c) n) (lead n) (lead_near n)) λ vs. calm (ret_ll (v ∷ vs))

pub lines_sub : {X : Type 0} (n : ℕ) {A A' : Lang X} → Sub A A' → Sub (Lines n A) (Lines n A')
lines_sub n e = seq_sub e λ v. seq_sub (star_sub (indented_sub n e)) λ vs. sub_refl _
