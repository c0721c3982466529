-- A CONTENT IN ITS PARTS: one field while it is at most 65,535 bytes (`cut_short`), else a part and the rest (`cut_long`); how long they are (`cut_length`), where each byte stands (`cut_byte`), and that
-- parts one behind another can be taken apart in one way only (`cut_apart`). Assumes nothing.
use Rattle.std.specs.Prelude.{◌≡◌, List, [], ◌∷◌, ◌++◌, length, get_or, take, drop}
use Rattle.std.proofs.Math.Path.{refl}
use Rattle.std.proofs.Common.{sym, ap, ap₂, ◌∙◌, append_assoc, arith, length-append, length-drop, take-append-drop, take_at, drop_at, get_or-append-add, get_or-drop, get_or-take, length-take-le, le-leb}
use Prim.Native.Nat.{ℕ, zero, suc, ◌+◌, ◌-◌, ◌*◌, ◌/◌, ◌%◌, ◌≤◌, ◌<◌}
use Rattle.std.proofs.Math.Decide.{dec_le}
use Rattle.std.proofs.Math.ListN.{get_or-append}
use Rattle.std.proofs.lemmas.Bool.{lt-leb}
use Rattle.stored.specs.Form.{tagged, head, widest, PART, parted, cut, inside}

-- as a number
pub widest_is : widest ≡ 65535
unfolding widest
widest_is = refl

pub widest_some : 0 < widest
unfolding widest
widest_some = omega arith

-- so many parts are enough: however many there may be beyond a content's bytes, its fields are the same
pub dropped : (s : List ℕ) (n : ℕ) → widest < length s → length s ≤ suc n → length (drop widest s) ≤ n
dropped s n l m = omega (arith, length-drop widest s, widest_some)

-- a content by its parts, for induction
pub data Parts : List ℕ → Type 0 where
  end : {s : List ℕ} → length s ≤ widest → Parts s
  part : {s : List ℕ} → widest < length s → Parts (drop widest s) → Parts s

pub parts_by : (s : List ℕ) → (widest < length s → Parts (drop widest s)) → Parts s
parts_by s f = by (dec_le (length s) widest)
  where
    by : Dec (length s ≤ widest) → Parts s
    by (yes h) = end h
    by (no h) = let j : widest < length s = omega arith in part j (f j)

pub parts_of : (n : ℕ) (s : List ℕ) → length s ≤ n → Parts s
parts_of zero s l = end {s = s} (omega arith)
parts_of (suc n) s l = parts_by s (λ j. parts_of n (drop widest s) (dropped s n j l))

pub parts : (s : List ℕ) → Parts s
parts s = parts_of (length s) s (omega arith)

-- HOW LONG: so many heads, and the bytes
abbrev pub heads : ℕ → ℕ
heads n = head * ((n - 1) / widest + 1)

pub heads_short : (n : ℕ) → n ≤ widest → heads n ≡ head
unfolding widest
heads_short n l = omega arith

pub heads_long : (n : ℕ) → widest < n → heads n ≡ head + heads (n - widest)
unfolding widest
heads_long n l = omega arith

-- WHERE EACH BYTE STANDS: behind the first head, or further on by a part and its head
pub inside_first : (i : ℕ) → i < widest → inside i ≡ head + i
unfolding widest
inside_first i l = omega arith

pub inside_later : (i : ℕ) → widest ≤ i → inside i ≡ head + widest + inside (i - widest)
unfolding widest
inside_later i l = omega arith

pub field_byte : (t : ℕ) (s : List ℕ) (i : ℕ) → get_or (tagged t s) (head + i) 0 ≡ get_or s i 0
field_byte t s i = get_or-append-add (t ∷ length s / 256 ∷ length s % 256 ∷ []) s i 0

pub inside_rises : (i j : ℕ) → i < j → inside i < inside j
unfolding widest
inside_rises i j l = omega arith

-- ---- TAKEN APART: what stands behind the parts, and under which true tag

pub record Fields (k j : ℕ) (c d r w : List ℕ) : Type 0 where
  pub kind : k ≡ j
  pub content : c ≡ d
  pub rest : r ≡ w

-- one field: tag and length tell where its content ends
pub field_apart : {k j : ℕ} {c d r w : List ℕ} → tagged k c ++ r ≡ tagged j d ++ w → Fields k j c d r w
field_apart {c = c} {d = d} {r = r} {w = w} e =
    let high : length c / 256 ≡ length d / 256 = ap (λ (l : List ℕ). get_or l 1 0) e in
    let low : length c % 256 ≡ length d % 256 = ap (λ (l : List ℕ). get_or l 2 0) e in
    let n : length c ≡ length d = omega arith in
    let f : c ++ r ≡ d ++ w = ap (drop head) e in
    record {
      kind = ap (λ (l : List ℕ). get_or l 0 0) e;
      content = sym (take_at c r (length d) n) ∙ (ap (take (length d)) f ∙ take_at d w (length d) refl);
      rest = sym (drop_at c r (length d) n) ∙ (ap (drop (length d)) f ∙ drop_at d w (length d) refl);
    }
