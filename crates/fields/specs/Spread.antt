-- A CONTENT SPREAD INTO ITS PARTS where it stands: the last part is moved first, behind the heads of those before it (`Spread`), until the first is left (`spread_end`). Assumes nothing.
use Rattle.std.specs.Prelude.{◌≡◌, refl, ℕ, suc, ◌+◌, ◌-◌, ◌*◌, ◌/◌, ◌%◌, ◌≤◌, ◌<◌, get_or, set, take, drop}
use Rattle.std.proofs.Math.Path.{sym, ap}
use Rattle.std.proofs.Common.{ap₂, subst, ◌∙◌, take-append-drop, get_or-set_other, drop-set-lt, take_all, take-take, take_at, drop_at, drop-drop}
use mathlib.Core.List.{List, [], ◌∷◌, ◌++◌, append_assoc, append-nil}
use native.Mathlib.Omega.{arith}
use Rattle.std.proofs.Math.ListN.{length, length-drop}
use Rattle.std.proofs.Math.Seq.{sets, slice, paste, length-slice, length-sets, length-take-le}
use Rattle.std.specs.List.{copy_within}
use Rattle.std.proofs.lemmas.List.Edits.{sets-eq}
use Rattle.std.proofs.lemmas.List.{take-set-le}
use Rattle.exact.specs.Place.{slice_at}
use Rattle.rooms.specs.Stores.{sets_append, row_behind}
use Rattle.stored.specs.Form.{tagged, widest, PART, cut}
use Rattle.stored.specs.Parts.{widest_is}
use Rattle.stored.proofs.PartsLaws.{cut_short, cut_long, cut_length}
use Rattle.fields.specs.Puts.{Puts}

-- ---- a run of stores, and what is before it and behind it

take_sets : (n : ℕ) (l : List ℕ) (i : ℕ) (vs : List ℕ) → n ≤ i → take n (sets l i vs) ≡ take n l
take_sets n l i [] h = refl
take_sets n l i (v ∷ vs) h = take_sets n (set l i v) (suc i) vs (omega arith) ∙ take-set-le n l i v h

drop_sets : (n : ℕ) (l : List ℕ) (i : ℕ) (vs : List ℕ) → i + length vs ≤ n → drop n (sets l i vs) ≡ drop n l
drop_sets n l i [] h = refl
drop_sets n l i (v ∷ vs) h = drop_sets n (set l i v) (suc i) vs (omega arith) ∙ drop-set-lt n l i v (omega arith)

get_d_sets : (l : List ℕ) (i : ℕ) (vs : List ℕ) (j : ℕ) → j < i → get_or (sets l i vs) j 0 ≡ get_or l j 0
get_d_sets l i [] j h = refl
get_d_sets l i (v ∷ vs) j h = get_d_sets (set l i v) (suc i) vs j (omega arith) ∙ get_or-set_other l i j v 0 (λ e. omega arith)

-- a run over another, which it covers
pub sets_over : (l : List ℕ) (i j : ℕ) (us vs : List ℕ) → i ≤ j → j + length vs ≤ i + length us → i + length us ≤ length l → sets (sets l j vs) i us ≡ sets l i us
sets_over l i j us vs a b c =
    let m = sets l j vs in
    sets-eq us m i (omega (arith, length-sets l j vs))
    ∙ (ap₂ (λ (h t : List ℕ). h ++ us ++ t) (take_sets i l j vs a) (drop_sets (i + length us) l j vs b) ∙ sym (sets-eq us l i c))

-- what stands there already
pub sets_self : (l : List ℕ) (i j : ℕ) → i ≤ j → j ≤ length l → sets l i (slice i j l) ≡ l
sets_self l i j a b =
    let n = length-slice i j l b in
    let e : i + length (slice i j l) ≡ j = omega arith in
    let f : take i (take j l) ≡ take i l = take-take i j l a in
    sets-eq (slice i j l) l i (omega arith)
    ∙ (ap (λ k. take i l ++ slice i j l ++ drop k l) e
    ∙ (ap (λ (w : List ℕ). w ++ slice i j l ++ drop j l) (sym f)
    ∙ (ap (λ (w : List ℕ). w ++ drop j l) (take-append-drop i (take j l)) ∙ take-append-drop j l)))

-- what was stored there
pub slice_sets : (l : List ℕ) (i : ℕ) (vs : List ℕ) → i + length vs ≤ length l → slice i (i + length vs) (sets l i vs) ≡ vs
slice_sets l i vs h =
    sym (slice_at i (length vs) (sets l i vs))
    ∙ (ap (λ (w : List ℕ). take (length vs) (drop i w)) (sets-eq vs l i h ∙ append_assoc (take i l) vs (drop (i + length vs) l))
    ∙ (ap (take (length vs)) (drop_at (take i l) (vs ++ drop (i + length vs) l) i (length-take-le i l (omega arith))) ∙ take_at vs (drop (i + length vs) l) (length vs) refl))

-- ---- bytes moved on

pub pasted : (o s : List ℕ) (at n : ℕ) → n ≤ length s → at + n ≤ length o → paste o at s n ≡ sets o at (take n s)
pasted o s at n h k =
    let l : length (take n s) ≡ n = length-take-le n s h in
    let e : at + length (take n s) ≡ at + n = omega arith in
    sym (sets-eq (take n s) o at (omega arith) ∙ ap (λ j. take at o ++ take n s ++ drop j o) e)

pub shifted : (o new : List ℕ) (a b n : ℕ) → a + n ≤ length o → b + n ≤ length o → new ≡ copy_within o a (a + n) b → new ≡ sets o b (slice a (a + n) o)
shifted o new a b n h k e =
    let z : a + n - a ≡ n = omega arith in
    e
    ∙ (ap (λ j. paste o b (drop a o) j) z
    ∙ (pasted o (drop a o) b n (omega (arith, length-drop a o)) k ∙ ap (sets o b) (slice_at a n o)))

-- ---- a head and what is moved behind it

pub part_moved : (o p q : List ℕ) (at from tag m : ℕ) → from + m ≤ length o → p ≡ sets o (at + 3) (slice from (from + m) o) → q ≡ sets p at (tag ∷ m / 256 ∷ m % 256 ∷ [])
    → q ≡ sets o at (tagged tag (slice from (from + m) o))
part_moved o p q at from tag m l e f =
    let s = slice from (from + m) o in
    let n : length s ≡ m = length-slice from (from + m) o l ∙ omega arith in
    f
    ∙ (ap (λ (w : List ℕ). sets w at (tag ∷ m / 256 ∷ m % 256 ∷ [])) e
    ∙ (row_behind o at (at + 3) (tag ∷ m / 256 ∷ m % 256 ∷ []) s (omega arith) ∙ ap (λ k. sets o at (tag ∷ k / 256 ∷ k % 256 ∷ s)) (sym n)))

-- ---- THE CONTENT of n bytes that stands behind the head at x, and its pieces

module _ (o : List ℕ) (x kind n : ℕ) where
  abbrev pub between : List ℕ
  between = slice (x + 3) (x + 3 + n) o

  module _ (l : x + 3 + n ≤ length o) where
    between_length : length between ≡ n
    between_length = length-slice (x + 3) (x + 3 + n) o l ∙ omega arith

    piece : (c m : ℕ) → c + m ≤ n → slice (x + 3 + c) (x + 3 + c + m) o ≡ take m (drop c between)
    piece c m h =
        let a = x + 3 in
        ap (λ (w : List ℕ). drop (a + c) w) (sym (take-take (a + c + m) (a + n) o (omega arith)))
        ∙ (sym (slice_at (a + c) m (take (a + n) o)) ∙ ap (take m) (sym (drop-drop c a (take (a + n) o))))

  -- SPREAD from the part k on: what is behind it stands in its place, and the part itself, of m bytes, where it stood at first
  pub record Spread (k tag m : ℕ) (out : List ℕ) : Type 0 where
    pub rest : List ℕ
    pub is : out ≡ sets o (x + 65538 * k + 3 + m) rest
    pub whole : cut kind (drop (65535 * k) between) ≡ tagged tag (take m (drop (65535 * k) between)) ++ rest
    pub ends : 65535 * k + m ≤ n
    pub few : m ≤ 65535
    pub some : 0 < m
    pub low : tag < 256

-- what is asked of the parts of a content, and of one of them
pub record Spreads (o : List ℕ) (x kind n : ℕ) : Type 0 where
  pub low : kind < 256
  pub wide : 65535 < n
  pub fits : x + n + 3 * ((n - 1) / 65535 + 1) ≤ length o

pub record Moves (b x k tag m : ℕ) : Type 0 where
  pub low : tag < 256
  pub few : m ≤ 65535
  pub fits : x + 65538 * k + 3 + m ≤ b

-- the bytes that a part is moved from are as they came
kept_piece : (o rest : List ℕ) (at i j : ℕ) → j ≤ at → slice i j (sets o at rest) ≡ slice i j o
kept_piece o rest at i j h = ap (drop i) (take_sets j o at rest h)

module _ {o : List ℕ} {x kind n : ℕ} (h : Spreads o x kind n) where
  inside : x + 3 + n ≤ length o
  inside = omega (arith, h.fits)

  -- the end is the first to be moved
  pub spread_start : {k m : ℕ} → k ≡ (n - 1) / 65535 → m ≡ n - 65535 * k → Spread o x kind n k kind m o
  spread_start {k} {m} e f =
      let t = between o x kind n in
      let d = drop (65535 * k) t in
      let z : length d ≡ m = omega (arith, length-drop (65535 * k) t, between_length o x kind n inside, h.wide) in
      let l : length d ≤ widest = omega (arith, widest_is, h.wide) in
      record {
        rest = [];
        is = refl;
        whole = cut_short kind d l ∙ (ap (λ (w : List ℕ). tagged kind w) (sym (take_all m d (omega arith))) ∙ sym (append-nil (tagged kind (take m d))));
        ends = omega (arith, h.wide);
        few = omega (arith, h.wide);
        some = omega (arith, h.wide);
        low = h.low;
      }

  module _ {k tag m : ℕ} {out : List ℕ} (s : Spread o x kind n k tag m out) where
    abbrev text : List ℕ
    text = between o x kind n

    part : List ℕ
    part = take m (drop (65535 * k) text)

    part_length : length part ≡ m
    unfolding part
    part_length = length-take-le m (drop (65535 * k) text) (omega (arith, length-drop (65535 * k) text, between_length o x kind n inside, s.ends))

    pub spread_moves : {b : ℕ} → b ≡ length o → Moves b x k tag m
    spread_moves e = record { low = s.low; few = s.few; fits = omega (arith, h.fits, h.wide, s.ends, s.some) }

    -- a part is moved
    moved : {new : List ℕ} → new ≡ sets out (x + 65538 * k) (tagged tag (slice (x + 3 + 65535 * k) (x + 3 + 65535 * k + m) out)) → new ≡ sets o (x + 65538 * k) (cut kind (drop (65535 * k) text))
    unfolding part
    moved {new} e =
        let at = x + 65538 * k in
        let a = x + 3 + 65535 * k in
        let p : slice a (a + m) out ≡ part =
        ap (slice a (a + m)) s.is ∙ (kept_piece o s.rest (at + 3 + m) a (a + m) (omega arith) ∙ piece o x kind n inside (65535 * k) m s.ends) in
        e
        ∙ (ap₂ (λ (w v : List ℕ). sets w at (tagged tag v)) s.is p
        ∙ (row_behind o at (at + 3 + m) (tagged tag part) s.rest (omega (arith, part_length)) ∙ ap (sets o at) (sym s.whole)))

    pub spread_turn : {new : List ℕ} → 0 < k → new ≡ sets out (x + 65538 * k) (tagged tag (slice (x + 3 + 65535 * k) (x + 3 + 65535 * k + m) out)) → Spread o x kind n (k - 1) 11 65535 new
    spread_turn {new} l e = next refl
      where
        next : {j : ℕ} → j ≡ 65535 → Spread o x kind n (k - 1) 11 j new
        next {j} g =
            let d = drop (65535 * (k - 1)) text in
            let w : widest < length d = omega (arith, length-drop (65535 * (k - 1)) text, between_length o x kind n inside, s.ends, s.some, widest_is) in
            let v : drop widest d ≡ drop (65535 * k) text = drop-drop widest (65535 * (k - 1)) text ∙ ap (λ i. drop i text) (let z : 65535 * (k - 1) + widest ≡ 65535 * k = omega (arith, widest_is) in z) in
            let y : widest ≡ j = omega (arith, widest_is) in
            record {
              rest = cut kind (drop (65535 * k) text);
              is = moved e ∙ ap (λ i. sets o i (cut kind (drop (65535 * k) text))) (let z : x + 65538 * k ≡ x + 65538 * (k - 1) + 3 + j = omega arith in z);
              whole = cut_long kind d w ∙ ap₂ (λ (i : ℕ) (r : List ℕ). tagged PART (take i d) ++ r) y (ap (cut kind) v);
              ends = omega (arith, s.ends, s.some);
              few = omega arith;
              some = omega arith;
              low = omega arith;
            }

    -- the first part stays where it stands
    pub spread_end : {new : List ℕ} → k ≤ 0 → new ≡ sets out x (tag ∷ m / 256 ∷ m % 256 ∷ []) → new ≡ sets o x (cut kind text)
    unfolding part
    spread_end {new} l e =
        let a = x + 3 in
        let z : k ≡ 0 = omega arith in
        let hd = tag ∷ m / 256 ∷ m % 256 ∷ [] in
        let p : slice a (a + m) o ≡ part =
        ap (λ i. slice i (i + m) o) (let y : a ≡ a + 65535 * k = omega arith in y) ∙ piece o x kind n inside (65535 * k) m s.ends in
        let f : o ≡ sets o a part = sym (ap (sets o a) (sym p) ∙ sets_self o a (a + m) (omega arith) (omega (arith, inside, s.ends))) in
        let g : out ≡ sets o a (part ++ s.rest) =
        s.is
        ∙ (ap₂ (λ (w : List ℕ) (i : ℕ). sets w i s.rest) f (let y : x + 65538 * k + 3 + m ≡ a + length part = omega (arith, part_length) in y)
        ∙ sym (sets_append o a part s.rest)) in
        let q : tagged tag part ++ s.rest ≡ cut kind text = sym s.whole ∙ ap (λ i. cut kind (drop (65535 * i) text)) z in
        e
        ∙ (ap (λ (w : List ℕ). sets w x hd) g
        ∙ (row_behind o x a hd (part ++ s.rest) (omega arith)
        ∙ (ap (λ i. sets o x (tag ∷ i / 256 ∷ i % 256 ∷ (part ++ s.rest))) (sym part_length) ∙ ap (sets o x) q)))

-- ---- A CONTENT FROM x + 3 UP TO y gets its heads

pub record Closes (o : List ℕ) (x kind y : ℕ) : Type 0 where
  pub low : kind < 256
  pub rises : x + 3 ≤ y
  pub fits : x + (y - (x + 3)) + 3 * ((y - (x + 3) - 1) / 65535 + 1) ≤ length o

module _ {o : List ℕ} {x kind y : ℕ} (h : Closes o x kind y) where
  as_between : {n : ℕ} → n ≡ y - (x + 3) → between o x kind n ≡ slice (x + 3) y o
  as_between {n} e = ap (λ i. slice (x + 3) i o) (let z : x + 3 + n ≡ y = omega (arith, h.rises) in z)

  content_length : length (slice (x + 3) y o) ≡ y - (x + 3)
  content_length = length-slice (x + 3) y o (omega (arith, h.fits, h.rises))

  -- one head
  pub closes_short : {n : ℕ} {p : List ℕ} → n ≡ y - (x + 3) → n ≤ 65535 → p ≡ sets o x (kind ∷ n / 256 ∷ n % 256 ∷ []) → Puts (cut kind (slice (x + 3) y o)) x y o p
  closes_short {n} {p} e l f =
      let s = slice (x + 3) y o in
      let c : cut kind s ≡ tagged kind s = cut_short kind s (omega (arith, content_length, widest_is)) in
      let m : n ≡ length s = omega (arith, content_length) in
      let hd = kind ∷ n / 256 ∷ n % 256 ∷ [] in
      let i : o ≡ sets o (x + 3) s = sym (sets_self o (x + 3) y h.rises (omega (arith, h.fits, h.rises))) in
      let g : p ≡ sets o x (hd ++ s) = f ∙ (ap (λ (w : List ℕ). sets w x hd) i ∙ row_behind o x (x + 3) hd s (omega arith)) in
      record {
        ends = omega (arith, ap length c, content_length, h.rises);
        holds = g ∙ (ap (λ j. sets o x (kind ∷ j / 256 ∷ j % 256 ∷ s)) m ∙ ap (sets o x) (sym c));
      }

  -- more than one
  pub closes_spreads : {n : ℕ} → n ≡ y - (x + 3) → 65535 < n → Spreads o x kind n
  closes_spreads {n} e l =
      record { low = h.low; wide = l; fits = subst (λ i. x + i + 3 * ((i - 1) / 65535 + 1) ≤ length o) (sym e) h.fits }

  pub closes_long : {n m z : ℕ} {p : List ℕ} → n ≡ y - (x + 3) → m ≡ 3 * ((n - 1) / 65535 + 1) → z ≡ x + n + m → p ≡ sets o x (cut kind (between o x kind n)) → Puts (cut kind (slice (x + 3) y o)) x z o p
  unfolding widest
  closes_long {n} {m} {z} {p} e f g q =
      let s = slice (x + 3) y o in
      let c = cut_length kind s in
      let i : n ≡ length s = omega (arith, content_length) in
      let j : x + n + 3 * ((n - 1) / 65535 + 1) ≡ x + (length s + 3 * ((length s - 1) / 65535 + 1)) = ap (λ k. x + k + 3 * ((k - 1) / 65535 + 1)) i ∙ omega arith in
      record { ends = g ∙ (omega arith); holds = q ∙ ap (λ (w : List ℕ). sets o x (cut kind w)) (as_between e) }

pub ruleset closing = (closes_short, closes_spreads, closes_long)

pub ruleset spreading = (spread_start, spread_moves, spread_turn, spread_end)
