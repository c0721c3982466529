-- TEXTS BY THEIR LENGTH AND LAST BYTES (`Ends`): one of another length, or with other last bytes, is another text (`Bars`). Assumes nothing.
use Rattle.std.specs.Prelude.{◌≡◌, refl, List, Bool, true, false, ℕ, ◌+◌, ◌-◌, ◌≤◌, ◌<◌, length, get_or, take, drop, set}
use Rattle.std.proofs.Common.{sym, ap, subst, ◌∙◌, arith, length-set, length-drop, ext_get_or, length-take-le, take-take, drop-drop, get_or-drop, get_or-take, get_or-set_same, get_or-set_other, Fits, rules}
use Rattle.std.proofs.Math.Decide.{dec_le}
use Rattle.std.proofs.Math.Seq.{slice, length-slice}
use Rattle.std.specs.Int.{w64}
use Rattle.exact.specs.Tells.{Tells, tells_no}
use Rattle.exact.specs.Class.{clash}
use Rattle.distinct.specs.Names.{Part}
use Rattle.views.specs.Views.{viewed, view_less, ByteAsked, Content}

-- t has n bytes, and the last m are the first in the room
pub record Ends (t room : List ℕ) (m n : ℕ) : Type 0 where
  pub long : length t ≡ n
  pub tail : drop (n - m) t ≡ slice 0 m room

-- x is none of those
pub record Bars (x room : List ℕ) (m n : ℕ) : Type 0 where
  pub bars : (t : List ℕ) → Ends t room m n → t ≡ x → ⊥

-- what is told of x: if so, that it is none of those
pub record Differs (x room : List ℕ) (m n : ℕ) (b : Bool) : Type 0 where
  pub sure : b ≡ true → Bars x room m n

-- ---- as `differs` tells

module _ (s room : List ℕ) (a e m n : ℕ) (p : Part s a e) where
  part_long : length (slice a e s) ≡ e - a
  part_long = length-slice a e s p.fits

  pub differs_long : (e - a ≡ n → ⊥) → Differs (slice a e s) room m n true
  differs_long f = record { sure = λ z. record { bars = λ t h i. f (sym part_long ∙ (sym (ap length i) ∙ h.long)) } }

  pub differs_part : e - a ≡ n → m ≤ n → Part s (e - m) e
  differs_part i l = record { order = omega arith; fits = p.fits }

  module _ (i : e - a ≡ n) (l : m ≤ n) where
    last_is : drop (n - m) (slice a e s) ≡ slice (e - m) e s
    last_is = drop-drop (n - m) a (take e s) ∙ ap (λ (j : ℕ). drop j (take e s)) (let z : a + (n - m) ≡ e - m = omega (arith, p.order) in z)

    module _ (b : Bool) (t : Tells (slice (e - m) e s ≡ slice 0 m room) b) where
      pub differs_yes : b ≡ false → Differs (slice a e s) room m n true
      differs_yes z = record { sure = λ y. record { bars = λ u h j. tells_no b z t (sym last_is ∙ (ap (drop (n - m)) (sym j) ∙ h.tail)) } }

pub differs_no : (x room : List ℕ) (m n : ℕ) → Differs x room m n false
differs_no x room m n = record { sure = λ z. absurd (clash z refl) }

pub differs_order : (s : List ℕ) (a e : ℕ) → Part s a e → a ≤ e
differs_order s a e p = p.order

pub differs_sub : (s : List ℕ) (a e m n : ℕ) → Part s a e → e - a ≡ n → m ≤ n → m ≤ e
differs_sub s a e m n p i l = omega (arith, p.order)

pub differs_room : (room : List ℕ) (m : ℕ) → m ≤ length room → Part room 0 m
differs_room room m l = record { order = omega arith; fits = l }

pub ruleset differing = (differs_long, differs_part, differs_no, differs_yes, differs_order, differs_sub, differs_room, rules)

-- ---- the last bytes, copied

-- the first i in the room are those of v from k on
pub record Tail (v : List ℕ) (k i : ℕ) (room : List ℕ) : Type 0 where
  pub long : length room ≡ 64
  pub same : (j : ℕ) → j < i → get_or room j 0 ≡ get_or v (k + j) 0

pub tail_none : (v : List ℕ) (k : ℕ) (room : List ℕ) → length room ≡ 64 → Tail v k 0 room
tail_none v k room e = record { long = e; same = λ j l. absurd (omega arith) }

module _ (v : List ℕ) (k i : ℕ) (room : List ℕ) (h : Tail v k i room) where
  pub tail_more : i < 64 → (b : ℕ) → b ≡ get_or v (k + i) 0 → Tail v k (i + 1) (set room i b)
  tail_more l b e = record { long = length-set room i b ∙ h.long; same = λ j m. by j m (dec_le i j) }
    where
      by : (j : ℕ) → j < i + 1 → Dec (i ≤ j) → get_or (set room i b) j 0 ≡ get_or v (k + j) 0
      by j m (yes o) =
          let z : j ≡ i = omega arith in
          ap (λ c. get_or (set room i b) c 0) z ∙ (get_or-set_same room i b 0 (omega (arith, h.long)) ∙ (e ∙ ap (λ c. get_or v (k + c) 0) (sym z)))
      by j m (no o) = get_or-set_other room i j b 0 (λ z. omega arith) ∙ h.same j (omega arith)

  pub tail_long : length room ≡ 64
  tail_long = h.long

  pub tail_over : (m : ℕ) → m ≤ i → i ≤ m → Tail v k m room
  tail_over m l o = subst (λ (c : ℕ). Tail v k c room) (let z : i ≡ m = omega arith in z) h

module _ (stored starts : List ℕ) (d n k m i : ℕ) (c : Content stored starts d n) (o : m ≤ n) (e : k ≡ n - m) (l : i < m) where
  pub tail_asked : ByteAsked stored starts d (k + i)
  tail_asked = record { low = c.low; few = c.few; inside_view = omega (arith, c.fits) }

  pub tail_few : Fits w64 (k + i)
  tail_few = omega (arith, c.few, c.fits, view_less stored starts d)

pub ruleset tailing = (tail_none, tail_more, tail_long, tail_over, tail_asked, tail_few, rules)

-- ---- a content of n bytes ends with them

pub tail_ends : (stored starts room : List ℕ) (d m n : ℕ) → Content stored starts d n → m ≤ n → m ≤ 64 → Tail (viewed stored starts d) (n - m) m room → Ends (take n (viewed stored starts d)) room m n
tail_ends stored starts room d m n c l o h =
    record {
      long = whole;
      tail = ext_get_or 0 (drop (n - m) (take n v)) (slice 0 m room) (length-drop (n - m) (take n v) ∙ (omega (arith, whole) ∙ sym (length-slice 0 m room (omega (arith, h.long))))) (λ j k. bytes j (omega (arith, whole, length-drop (n - m) (take n v))));
    }
  where
    v : List ℕ
    v = viewed stored starts d

    whole : length (take n v) ≡ n
    whole = length-take-le n v c.fits

    bytes : (j : ℕ) → j < m → get_or (drop (n - m) (take n v)) j 0 ≡ get_or (slice 0 m room) j 0
    bytes j k =
        get_or-drop (n - m) (take n v) j 0
        ∙ (get_or-take n v (n - m + j) 0 (omega arith)
        ∙ (sym (h.same j k) ∙ sym (get_or-drop 0 (take m room) j 0 ∙ (ap (λ (i : ℕ). get_or (take m room) i 0) (let z : 0 + j ≡ j = omega arith in z) ∙ get_or-take m room j 0 k))))

-- .. as a slice of the room
pub ends_last : (t room : List ℕ) (m n : ℕ) → m ≤ length room → Ends t room m n → Ends t (take m room) (length (take m room)) n
ends_last t room m n l h =
    let e : length (take m room) ≡ m = length-take-le m room l in
    record {
      long = h.long;
      tail = subst (λ (j : ℕ). drop (n - j) t ≡ slice 0 j (take m room)) (sym e) (h.tail ∙ ap (λ (u : List ℕ). drop 0 u) (sym (take-take m m room (omega arith))));
    }
