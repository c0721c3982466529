-- KEYS THAT ARE THE SAME AS AN EARLIER ONE, and the least place at which one starts, found key by key. Assumes nothing.
use Rattle.std.specs.Prelude.{◌≡◌, refl, ℕ, zero, suc, ◌+◌, ◌≤◌, ◌<◌, get_or, replicate, Option, Some, None}
use Rattle.std.proofs.Common.{sym, ap, subst, ◌∙◌, arith}
use Rattle.std.proofs.Math.Decide.{ℕ_discrete, dec_lt}
use Rattle.std.proofs.lemmas.List.{length-replicate}
use Rattle.repeats.specs.Numbering.{Numbering}
use Rattle.repeats.specs.Links.{Before, Earlier, Chains, chains_none}

-- ---- an answer names the least number with a property

pub record LeastOf (A : ℕ → Type 0) (p : ℕ) : Type 0 where
  pub is : A p
  pub least : (q : ℕ) → A q → p ≤ q

abbrev pub Names : (ℕ → Type 0) → Option ℕ → Type 0
Names A (Some p) = LeastOf A p
Names A None = (q : ℕ) → A q → ⊥

pub names_map : {A B : ℕ → Type 0} → ((q : ℕ) → A q → B q) → ((q : ℕ) → B q → A q) → (r : Option ℕ) → Names A r → Names B r
names_map f g (Some p) x = record { is = f p x.is; least = λ q y. x.least q (g q y) }
names_map f g None x = λ q y. x q (g q y)

-- ---- keys

-- a key before n that starts at p is the same as an earlier one
pub record Later (N : Numbering) (n p : ℕ) : Type 0 where
  pub number : ℕ
  pub key : Before N n number
  pub starts : N.start number ≡ p
  pub earlier : Earlier N number

-- of fewer than two keys none has an earlier one
pub names_few : (N : Numbering) (n : ℕ) → n < 2 → Names (Later N n) None
names_few N n l q x = omega (arith, x.key.before, x.earlier.key.before)

module _ (N : Numbering) (i : ℕ) where
  wider : (q : ℕ) → Later N i q → Later N (i + 1) q
  wider q x = record { number = x.number; key = record { before = omega (arith, x.key.before); key = x.key.key }; starts = x.starts; earlier = x.earlier }

  narrow : (q : ℕ) (x : Later N (i + 1) q) → (x.number ≡ i → ⊥) → Later N i q
  narrow q x n = record { number = x.number; key = record { before = omega (arith, x.key.before); key = x.key.key }; starts = x.starts; earlier = x.earlier }

  -- the number i is no key, or that of one without an earlier
  pub names_same : (r : Option ℕ) → Names (Later N i) r → (N.Key i → Earlier N i → ⊥) → Names (Later N (i + 1)) r
  names_same r x n = names_map wider (λ q y. narrow q y (λ e. n (subst N.Key e y.key.key) (subst (Earlier N) e y.earlier))) r x

-- keys that start one behind another: the first that has an earlier one is the least
pub names_first : (N : Numbering) (n i : ℕ) → Names (Later N i) None → ((k : ℕ) → i < k → k < n → N.start i < N.start k) → i < n → N.Key i → Earlier N i
    → Names (Later N n) (Some (N.start i))
names_first N n i x o l k e =
    record {
      is = record { number = i; key = record { before = l; key = k }; starts = refl; earlier = e };
      least = λ q y. by q y (dec_lt y.number i) (ℕ_discrete y.number i);
    }
  where
    by : (q : ℕ) (y : Later N n q) → Dec (y.number < i) → Dec (y.number ≡ i) → N.start i ≤ q
    by q y (yes h) d = absurd (x q (record { number = y.number; key = record { before = h; key = y.key.key }; starts = y.starts; earlier = y.earlier }))
    by q y (no h) (yes d) = let g : N.start i ≡ q = ap N.start (sym d) ∙ y.starts in omega arith
    by q y (no h) (no d) = let g = o y.number (omega arith) y.key.before in omega (arith, y.starts)

-- rooms for chains, with no key seen yet
pub zeros : (n i : ℕ) → ◌≡◌ {A = ℕ} (get_or (replicate n 0) i 0) 0
zeros zero i = refl
zeros (suc n) zero = refl
zeros (suc n) (suc i) = zeros n i

pub chains_start : (N : Numbering) (marks links : ℕ) → marks ≡ 4096 → Chains N (replicate marks 0) (replicate links 0) 0
chains_start N marks links e = chains_none N (replicate marks 0) (replicate links 0) (length-replicate {A = ℕ} marks 0 ∙ e) (zeros marks) (zeros links)
