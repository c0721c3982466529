-- LINES DEEPER THAN A COLUMN: one is read exactly, and as many as there are, by a look for more than c spaces. Assumes nothing.
use Rattle.std.specs.Prelude.{◌≡◌, refl, List, [], ◌∷◌, Bool, true, false, ℕ, ◌+◌, length}
use Rattle.std.proofs.Common.{inl, arith}
use Rattle.notation.specs.Lang.{Lang, Star, ◌>>=◌, ◌>>◌}
use Rattle.language.specs.Characters.{Space}
use Rattle.language.specs.BlockText.{Deeper}
use Rattle.exact.specs.Class.{Class, clash, is, only, apart, starts_none}
use Rattle.exact.specs.Out.{Reader, bad}
use Rattle.exact.specs.Lang.{None, Exact, within_same, weaken, byte_r, byte_exact}
use Rattle.exact.specs.Comb.{seq_r, seq_exact, many_r}
use Rattle.exact.specs.Ll.{star_ll, byte₁}
use Rattle.exact.specs.Block.{many_g, Clear, Looks, star_g_exact, indented_r, indented_exact, ind, ind_clear, ind_fails, lead, lead_near}
use Rattle.blocktext.specs.Follow.{beyond, deep_beyond, eats_none}
use Rattle.blocktext.specs.Opens.{Opens}

-- one space or more, and then an A that is told how many came after the first
abbrev pub Spaced : {X : Type 0} → (ℕ → Lang X) → Lang X
Spaced A = do Space; ss ← Star Space; A (length ss)

abbrev pub spaced_r : {X : Type 0} → (ℕ → Reader X) → Reader X
spaced_r q = seq_r (byte_r (is (only 32))) λ _. seq_r (many_r (is (only 32)) (byte_r (is (only 32)))) λ ss. q (length ss)

abbrev pub deeper_r : {X : Type 0} → ℕ → (ℕ → Reader X) → Reader X
deeper_r c q = indented_r c (spaced_r q)

-- a line of more than c spaces begins here
abbrev pub deeper : ℕ → List ℕ → Bool
deeper c s = ind (is (only 32)) c s

pub deeper_fails : {X : Type 0} (q : ℕ → Reader X) (c at : ℕ) (s : List ℕ) → deeper c s ≡ false → deeper_r c q at s ≡ bad (at + lead c s)
deeper_fails q = ind_fails (is (only 32)) (spaced_r q) spaced_fails
  where
    spaced_fails : (at : ℕ) (s : List ℕ) → ind (is (only 32)) 0 s ≡ false → spaced_r q at s ≡ bad at
    spaced_fails at [] e = refl
    spaced_fails at (b ∷ s) e = rw e refl

module _ {X : Type 0} {A : ℕ → Lang X} {q : ℕ → Reader X} (first : Class) (solid : apart first (only 32) ≡ true) (opens : (i : ℕ) → Opens first (A i))
    (e : (i : ℕ) → Exact 1 (A i) None (q i)) where
  spaced_exact : Exact 1 (Spaced A) None (spaced_r q)
  spaced_exact =
      weaken
      1
      None
      (omega arith)
      (within_same None)
      (seq_exact
      (byte_exact (is (only 32)) 32 refl)
      (λ _.
      seq_exact
      (star_ll refl refl (byte₁ 32)).exact
      (λ ss. e (length ss))
      (λ ss at s y at' t b g z. starts_none first (only 32) s solid ((opens (length ss)).opens at s y at' t b) z))
      (λ x at s y at' t b g z. z))

  pub deeper_exact : (c : ℕ) → Exact 1 (Deeper c A) None (deeper_r c q)
  deeper_exact c = indented_exact c spaced_exact

  -- where the look finds one, nothing else begins
  pub deeper_clear : (c : ℕ) (s : List ℕ) → deeper c s ≡ true → Clear (Deeper c A) (beyond c).bars s
  deeper_clear c s x =
      let d = ind_clear (is (only 32)) c spaced_exact s x in
      record { m = d.m; fits = d.fits; taken = λ t. deep_beyond c _ (d.taken t); alive = d.alive }

  -- AS MANY AS THERE ARE. u: any value
  pub deepers_exact : X → (c : ℕ) → Exact 0 (Star (Deeper c A)) (beyond c) (many_g (deeper c) (lead c) (deeper_r c q))
  deepers_exact u c = weaken 0 (beyond c) (omega arith) (eats_none (beyond c)) (star_g_exact {u = u} looks (deeper_exact c))
    where
      looks : Looks (Deeper c A) None (deeper_r c q) (beyond c).bars (deeper c) (lead c) (λ b. false) u
      looks =
          record {
            into = λ t x. absurd x;
            avoids = λ at s v at' t x y. y;
            keeps = λ at b s v at' t x y. clash y refl;
            look = λ s x. inl (deeper_clear c s x);
            fails = deeper_fails q c;
            near = lead_near c;
            blank = λ at b t x. absurd (clash x refl);
          }
