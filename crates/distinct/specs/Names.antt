-- KEYS BY NUMBER (`text_keys`): the k-th is the text between two places of a room, which stand in rooms of their own; whether one of them has a text (`Sits`), or that of an earlier one (`Twice`). Assumes nothing.
use Rattle.std.specs.Prelude.{◌≡◌, List, Bool, ℕ, ◌+◌, ◌≤◌, ◌<◌, length, get_or}
use Rattle.std.proofs.Common.{subst, arith, rules}
use Rattle.std.proofs.Math.Decide.{ℕ_discrete}
use Rattle.std.proofs.Math.Seq.{slice}
use Rattle.exact.specs.Tells.{Tells}
use Rattle.repeats.specs.Numbering.{Numbering}
use Rattle.repeats.specs.Links.{Within}

-- the places a and e of a text
pub record Part (text : List ℕ) (a e : ℕ) : Type 0 where
  pub order : a ≤ e
  pub fits : e ≤ length text

-- the text of the k-th key
abbrev pub spelt : List ℕ → List ℕ → List ℕ → ℕ → List ℕ
spelt text froms tos k = slice (get_or froms k 0) (get_or tos k 0) text

-- the keys by number. They are of one object
abbrev pub text_keys : List ℕ → List ℕ → List ℕ → Numbering
text_keys text froms tos = record { Key = λ i. Unit; start = λ i. i; object = λ i. 0; text = spelt text froms tos }

-- the first n stand in the rooms
pub record Held (text froms tos : List ℕ) (n : ℕ) : Type 0 where
  pub from_room : n ≤ length froms
  pub to_room : n ≤ length tos
  pub few : n ≤ 8192
  pub part : (k : ℕ) → k < n → Part text (get_or froms k 0) (get_or tos k 0)

-- the k-th is one of them
pub record Numbered (text froms tos : List ℕ) (k : ℕ) : Type 0 where
  pub from_room : k < length froms
  pub to_room : k < length tos
  pub part : Part text (get_or froms k 0) (get_or tos k 0)

pub held_number : {text froms tos : List ℕ} {n : ℕ} (k : ℕ) → Held text froms tos n → k < n → Numbered text froms tos k
held_number k h l = record { from_room = omega (arith, h.from_room); to_room = omega (arith, h.to_room); part = h.part k l }

module _ (text froms tos : List ℕ) (k : ℕ) (w : Numbered text froms tos k) (c d : ℕ) (i : c ≡ get_or froms k 0) (j : d ≡ get_or tos k 0) where
  pub number_part : Part text c d
  number_part = rw (i, j) w.part

  pub number_is : (words : List ℕ) (b f : ℕ) (q : Bool) → Tells (slice b f words ≡ slice c d text) q → Tells (slice b f words ≡ spelt text froms tos k) q
  number_is words b f q t = rw (i, j) at t

pub ruleset numbered = (number_part, number_is, rules)

pub held_first : {text froms tos : List ℕ} {n : ℕ} (i : ℕ) → Held text froms tos n → i ≤ n → Held text froms tos i
held_first i h l = record { from_room = omega (arith, h.from_room); to_room = omega (arith, h.to_room); few = omega (arith, h.few); part = λ k m. h.part k (omega arith) }

module _ (text froms tos : List ℕ) where
  -- s is the text of one of the first n
  abbrev pub Sits : List ℕ → ℕ → Type 0
  Sits s n = Within (text_keys text froms tos) (λ k. s ≡ spelt text froms tos k) n

  pub sits_at : {s : List ℕ} {n : ℕ} (k : ℕ) → k < n → s ≡ spelt text froms tos k → Sits s n
  sits_at k l e = record { other = k; key = record { before = l; key = tt }; same = e }

  -- one of the first n has the text of an earlier one
  pub record Twice (n : ℕ) : Type 0 where
    pub number : ℕ
    pub low : number < n
    pub earlier : Sits (spelt text froms tos number) number

  pub twice_none : Twice 0 → ⊥
  twice_none x = omega (arith, x.low)

  pub twice_more : {i : ℕ} → (Twice i → ⊥) → (Sits (spelt text froms tos i) i → ⊥) → Twice (i + 1) → ⊥
  twice_more {i} f g x = by (ℕ_discrete x.number i)
    where
      by : Dec (x.number ≡ i) → ⊥
      by (yes e) = g (subst (λ (j : ℕ). Sits (spelt text froms tos j) j) e x.earlier)
      by (no e) = f (record { number = x.number; low = omega (arith, x.low); earlier = x.earlier })
