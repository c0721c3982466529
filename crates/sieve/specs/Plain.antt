-- A SIEVE WITHOUT LISTS: each key has its bit, and one whose bit is set already is found again. Assumes nothing.
use Rattle.std.specs.Prelude.{◌≡◌, List, ◌∷◌, Bool, true, false, ℕ, ◌+◌, ◌/◌, ◌<◌, length, get_or}
use Rattle.std.proofs.Common.{sym, ◌∙◌, arith, rules}
use Rattle.exact.specs.Tells.{Tells, tells_yes, tells_no}
use Rattle.sieve.specs.Bits.{On, Sets}
use Rattle.sieve.specs.Sieve.{hits, broken, seen, again, large, class_of, class_low, Mark, mark, Has, has_here, has_later, Double, double_here, double_later, Sieved, Steps, Flags, flag_framed, flag_seen, flag_found}
use Rattle.sieve.specs.Shown.{class_small}

-- ASKED: the sieve has no lists
pub record Listless (S : List ℕ) (h : ℕ) : Type 0 where
  pub long : length S ≡ large
  pub low : h < 4294967296
  pub none : get_or S broken 0 ≡ 2

module _ (S : List ℕ) (q h : ℕ) (a : Listless S h) (c : ℕ) (e : c ≡ class_of h) where
  -- its bit is set: found again
  flagged : (S' : List ℕ) → On S seen (class_of h) → Flags S (class_of h) S' → Steps S q h S'
  flagged S' o x =
      record {
        framed = flag_framed x;
        sieved = λ zs s.
            record {
              found = flag_found zs S S' q h x s.found;
              whole = λ z. let y = x.between broken (omega arith) (omega arith) in absurd (omega (arith, a.none));
              plain = λ z p g i. by zs s p g i;
            };
      }
    where
      by : (zs : List Mark) → Sieved zs S → (p g : ℕ) → Has p g (mark q h ∷ zs) → On S' seen (class_of g)
      by zs s p g has_here = flag_seen x h o
      by zs s p g (has_later i) = flag_seen x g (s.plain a.none p g i)

  pub plain_flagged : (S' : List ℕ) (r : Bool) → r ≡ true → Tells (On S seen c) r → Flags S c S' → Steps S q h S'
  plain_flagged S' r v t x = flagged S' (rw e at (tells_yes r v t)) (rw e at x)

  -- it is not: set
  bitten : (S' : List ℕ) → (On S seen (class_of h) → ⊥) → Sets S seen (class_of h) S' → Steps S q h S'
  bitten S' n x =
      record {
        framed = record { long = x.long; below = λ i v. x.other i (λ z. omega arith); above = λ i v. let m = class_low h in x.other i (λ z. omega arith) };
        sieved = λ zs s.
            record {
              found = λ p g u.
                  let v = s.found p g (fresh zs s p g u) in
                  (x.keeps again (class_of g) v.0, (let k = x.other hits (λ z. omega arith) in omega (arith, v.1)));
              whole = λ z. let y = x.other broken (λ i. omega arith) in absurd (omega (arith, a.none));
              plain = λ z p g i. by zs s p g i;
            };
      }
    where
      fresh : (zs : List Mark) → Sieved zs S → (p g : ℕ) → Double p g (mark q h ∷ zs) → Double p g zs
      fresh zs s p g (double_here i) = absurd (n (s.plain a.none p g i))
      fresh zs s p g (double_later i) = i

      by : (zs : List Mark) → Sieved zs S → (p g : ℕ) → Has p g (mark q h ∷ zs) → On S' seen (class_of g)
      by zs s p g has_here = x.on
      by zs s p g (has_later i) = x.keeps seen (class_of g) (s.plain a.none p g i)

  pub plain_bit : (S' : List ℕ) (r : Bool) → r ≡ false → Tells (On S seen c) r → Sets S seen c S' → Steps S q h S'
  plain_bit S' r v t x = bitten S' (rw e at (tells_no r v t)) (rw e at x)

module _ (S : List ℕ) (h : ℕ) (a : Listless S h) where
  pub plain_low : h < 4294967296
  plain_low = a.low

  pub plain_class : (c : ℕ) → c ≡ class_of h → (length S ≡ large) × (c < 131072)
  plain_class c e = (a.long, class_small h c e)

  pub plain_room : (c : ℕ) → c ≡ class_of h → (seen + c / 32 < length S) × (seen < 4294967296)
  plain_room c e = (let l = class_small h c e in let m = a.long in omega arith, omega arith)

pub listless : (S : List ℕ) (h w : ℕ) → length S ≡ large → h < 4294967296 → w ≡ get_or S broken 0 → w ≡ 2 → Listless S h
listless S h w l m e f = record { long = l; low = m; none = sym e ∙ f }

pub ruleset plaining = (plain_flagged, plain_bit, plain_low, plain_class, plain_room, rules)
