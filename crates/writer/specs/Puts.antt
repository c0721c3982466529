-- BYTES WRITTEN AT A PLACE (`Puts`), one behind another. A store past the output's end changes nothing. Assumes nothing.
use Rattle.std.specs.Prelude.{◌≡◌, ◌⊎◌, refl, List, [], ◌∷◌, ◌++◌, ℕ, zero, suc, ◌+◌, ◌-◌, ◌≤◌, ◌<◌, min, length, set, take, drop}
use Rattle.std.proofs.Common.{inl, inr, sym, ap, subst, ◌∙◌, arith, length-append, take_all, take-append-drop}
use Rattle.std.proofs.Math.Decide.{dec_le}
use Rattle.std.proofs.lemmas.List.Edits.{sets, sets-eq}
use Rattle.std.proofs.Math.Seq.{paste, length-sets, length-take-le}
use Rattle.language.specs.BlockText.{spaces}
use Rattle.rooms.specs.Stores.{sets_append, sets_past}

-- no place that is written or counted lies behind this one
abbrev pub ceiling : ℕ
ceiling = 4294967296

-- the bytes w, from x up to y
pub record Puts (w : List ℕ) (x y : ℕ) (out out' : List ℕ) : Type 0 where
  pub ends : y ≡ x + length w
  pub holds : out' ≡ sets out x w

pub puts_none : {x : ℕ} {out : List ℕ} → Puts [] x x out out
puts_none {x} = record { ends = omega arith; holds = refl }

pub puts_as : {w u : List ℕ} {x y : ℕ} {out out' : List ℕ} → w ≡ u → Puts w x y out out' → Puts u x y out out'
puts_as {x = x} {y = y} {out = out} {out' = out'} e h = subst (λ (l : List ℕ). Puts l x y out out') e h

-- one behind another
pub puts_then : {u w : List ℕ} {x y z : ℕ} {out out' out'' : List ℕ} → Puts u x y out out' → Puts w y z out' out'' → Puts (u ++ w) x z out out''
puts_then {u} {w} {x} {y} {z} {out} {out'} {out''} h k =
    record {
      ends = omega (arith, h.ends, k.ends, length-append u w);
      holds =
          k.holds
          ∙ (ap (λ (n : ℕ). sets out' n w) h.ends ∙ (ap (λ (l : List ℕ). sets l (x + length u) w) h.holds ∙ sym (sets_append out x u w)));
    }

pub puts_more : {b : ℕ} {w : List ℕ} {x y z : ℕ} {out out' out'' : List ℕ} → Puts (b ∷ []) x y out out' → Puts w y z out' out'' → Puts (b ∷ w) x z out out''
puts_more h k = puts_then h k

-- between two bytes
module _ (a b : ℕ) (w : List ℕ) {x y z : ℕ} {o p q : List ℕ} where
  pub enclosed : {t : ℕ} {r : List ℕ} → Puts (a ∷ []) x y o p → Puts w y z p q → Puts (b ∷ []) z t q r → Puts (a ∷ w ++ b ∷ []) x t o r
  enclosed h k l = puts_then h (puts_then k l)

  pub last_room : x + length (a ∷ w ++ b ∷ []) ≤ ceiling → Puts (a ∷ []) x y o p → Puts w y z p q → z < ceiling
  last_room m h k = omega (arith, h.ends, k.ends, length-append w (b ∷ []))

module _ (a b : ℕ) (w : List ℕ) {x y : ℕ} {o p : List ℕ} where
  pub inner_room : x + length (a ∷ w ++ b ∷ []) ≤ ceiling → Puts (a ∷ []) x y o p → y + length w < ceiling
  inner_room m h = omega (arith, h.ends, length-append w (b ∷ []))

pub ruleset enclosing = (enclosed, last_room, inner_room)

-- n spaces
pub length_spaces : (n : ℕ) → length (spaces n) ≡ n
length_spaces zero = refl
length_spaces (suc n) = ap suc (length_spaces n)

-- where not all bytes of a text have room, those that have it are written
pub put_some : (text out : List ℕ) (x n : ℕ) → x + n ≤ length out → n ≤ length text → (length text ≤ n) ⊎ (length out ≤ x + n) → sets out x (take n text) ≡ sets out x text
put_some text out x n h k (inl l) = ap (sets out x) (take_all n text l)
put_some text out x n h k (inr l) =
    let u = take n text in
    let v = drop n text in
    let m : length u ≡ n = length-take-le n text k in
    sets_past v (sets out x u) (x + length u) (omega (arith, length-sets out x u))
    ∙ (sym (sets_append out x u v) ∙ ap (sets out x) (take-append-drop n text))

pub all_none : (text out : List ℕ) (x y : ℕ) → y ≡ x + length text → length out ≤ x → Puts text x y out out
all_none text out x y e h = record { ends = e; holds = sets_past text out x h }

-- as many bytes of a text as have room, copied by the loop
pub all_put : (text out out' : List ℕ) (x y n : ℕ) → y ≡ x + length text → x ≤ length out → n ≡ min (length text) (length out - x) → out' ≡ paste out x text n → Puts text x y out out'
all_put text out out' x y n e h f w =
    let k : n ≤ length text = omega arith in
    let m : x + length (take n text) ≡ x + n = omega (arith, length-take-le n text k) in
    let s : paste out x text n ≡ sets out x (take n text) = sym (sets-eq (take n text) out x (omega arith) ∙ ap (λ j. take x out ++ take n text ++ drop j out) m) in
    record { ends = e; holds = w ∙ (s ∙ put_some text out x n (omega arith) k (less (length text) (length out) n f)) }
  where
    less : (a b n : ℕ) → n ≡ min a (b - x) → (a ≤ n) ⊎ (b ≤ x + n)
    less a b n e = by (dec_le a n)
      where
        by : Dec (a ≤ n) → (a ≤ n) ⊎ (b ≤ x + n)
        by (yes l) = inl l
        by (no l) = inr (omega arith)

-- a turn of the loop that writes spaces, and its end
pub spaces_turn : (goal out new : List ℕ) (x n i : ℕ) → goal ≡ sets out (x + i) (spaces (n - i)) → i < n → new ≡ set out (x + i) 32
    → goal ≡ sets new (x + (i + 1)) (spaces (n - (i + 1)))
spaces_turn goal out new x n i inv h w =
    let s : n - i ≡ suc (n - (i + 1)) = omega arith in
    let j : suc (x + i) ≡ x + (i + 1) = omega arith in
    inv ∙ (ap (λ (k : ℕ). sets out (x + i) (spaces k)) s ∙ (ap (λ (l : List ℕ). sets l (suc (x + i)) (spaces (n - (i + 1)))) (sym w) ∙ ap (λ (k : ℕ). sets new k (spaces (n - (i + 1)))) j))

pub spaces_done : (out new : List ℕ) (x n i : ℕ) → sets out x (spaces n) ≡ sets new (x + i) (spaces (n - i)) → n ≤ i → Puts (spaces n) x (x + n) out new
spaces_done out new x n i inv h =
    let z : n - i ≡ 0 = omega arith in
    record {
      ends = omega (arith, length_spaces n);
      holds = sym (inv ∙ ap (λ (k : ℕ). sets new (x + i) (spaces k)) z);
    }

-- written one behind another
pub ruleset putting = (puts_none, puts_more, puts_then)
