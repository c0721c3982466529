-- FURTHER LINES of n spaces and an A, which begins with a byte that is neither space nor LF: as many as there are are read exactly. Assumes nothing.
use Rattle.std.specs.Prelude.{◌≡◌, refl, List, [], ◌∷◌, true, false, ℕ, zero, suc}
use Rattle.std.proofs.Common.{inl, arith}
use Rattle.notation.specs.Lang.{Lang, Star, Indented}
use Rattle.exact.specs.Class.{Class, clash, is, only, apart, and_of, none}
use Rattle.exact.specs.Out.{Reader, bad}
use Rattle.exact.specs.Lang.{Exact}
use Rattle.exact.specs.Block.{many_g, Clear, Looks, star_g_exact, indented_r, indented_exact, ind, ind_not, ind_clear, ind_fails, ind_of, lead, lead_near}
use Rattle.exact.specs.More.{Shuts}
use Rattle.blocktext.specs.Follow.{beyond, lines, beyond_lines, deep_lines}
use Rattle.blocktext.specs.Opens.{Opens}

abbrev pub further_r : {X : Type 0} → Class → ℕ → Reader X → Reader (List X)
further_r c n r = many_g (ind (is c) n) (lead n) (indented_r n r)

module _ {X : Type 0} {d : ℕ} {A : Lang X} {r : Reader X} (c : Class) (solid : apart c (only 32) ≡ true) (dry : apart c (only 10) ≡ true) (opens : Opens c A) (shuts : Shuts c r)
    (n : ℕ) (e : Exact (suc d) A (beyond n) r) where
  pub further_avoids : (at : ℕ) (s : List ℕ) (v : X) (at' : ℕ) (t : List ℕ) → Indented n A at s v at' t → (beyond n).bars s → ⊥
  further_avoids at s v at' t x y = ind_not c solid n n s (omega arith) (ind_of (is c) opens.opens n at s v at' t x) y

  pub further_keeps : (at b : ℕ) (s : List ℕ) (v : X) (at' : ℕ) (t : List ℕ) → Indented n A at (b ∷ s) v at' t → is (only 10) b ≡ true → ⊥
  further_keeps at b s v at' t x y = go n (ind_of (is c) opens.opens n at (b ∷ s) v at' t x)
    where
      go : (n : ℕ) → ind (is c) n (b ∷ s) ≡ true → ⊥
      go zero z = none c (only 10) b dry z y
      go (suc n) z = none (only 32) (only 10) b refl (and_of (is (only 32) b) (ind (is c) n s) z).0 y

  further_fails : (at : ℕ) (s : List ℕ) → ind (is c) 0 s ≡ false → r at s ≡ bad at
  further_fails at [] x = shuts.at_none at
  further_fails at (b ∷ s) x = shuts.not at b s x

  further_clear : (s : List ℕ) → ind (is c) n s ≡ true → Clear (Indented n A) (lines n).bars s
  further_clear s x =
      let k = ind_clear (is c) n e s x in
      record { m = k.m; fits = k.fits; taken = λ t. deep_lines c dry n _ (k.taken t); alive = k.alive }

  -- u: any value
  pub further_exact : X → Exact 0 (Star (Indented n A)) (lines n) (further_r c n r)
  further_exact u = star_g_exact looks (indented_exact n e)
    where
      looks : Looks (Indented n A) (beyond n) (indented_r n r) (lines n).bars (ind (is c) n) (lead n) (λ b. false) u
      looks =
          record {
            into = (beyond_lines n).barred;
            avoids = further_avoids;
            keeps = further_keeps;
            look = λ s x. inl (further_clear s x);
            fails = ind_fails (is c) r further_fails n;
            near = lead_near n;
            blank = λ at b t x. absurd (clash x refl);
          }
