-- The test for CHAR as code runs it: the states of a character as numbers, and the table of Utf8 as bytes, four for each range: the state, the least and the
-- greatest byte, the state after it. Assumes nothing.
use Rattle.std.specs.Prelude.{◌≡◌, refl, List, [], ◌∷◌, Bool, true, false, ℕ, zero, suc, ◌+◌, ◌-◌, ◌*◌, ◌≤◌, ◌<◌, length, take, drop, get_or, leb, eqb}
use Rattle.std.proofs.Common.{sym, ap, ◌∙◌, add-one, arith, drop_of_length-le, drop-cons, length-take-le, eq-eqb, ne_eqb, le-leb}
use Rattle.std.proofs.lemmas.Bool.{lt-leb}
use Rattle.exact.specs.Class.{◌to◌, Class, pick, and, or, is}
use Rattle.utf8.specs.Utf8.{At, Arrow, ◌to-be◌, table, follow, live, start, done, dead, one_more, two_more, after_c2, after_e0, after_ed, after_ef, after_ef_b7, after_f0, after_f1, after_f4, plane_end, last}
use Rattle.utf8.specs.Allowed.{ascii, step, whole, tail_byte, catch, caught, three_before, bad_char}

-- a character may begin at 1; 0 is nowhere
abbrev pub code : At → ℕ
code dead = 0
code start = 1
code done = 1
code one_more = 2
code two_more = 3
code after_c2 = 4
code after_e0 = 5
code after_ed = 6
code after_ef = 7
code after_ef_b7 = 8
code after_f0 = 9
code after_f1 = 10
code after_f4 = 11
code plane_end = 12
code last = 13

abbrev each : ℕ → ℕ → Class → List ℕ → List ℕ
each q n [] more = more
each q n ((a to e) ∷ c) more = q ∷ a ∷ e ∷ n ∷ each q n c more

abbrev flat : ℕ → List Arrow → List ℕ → List ℕ
flat q [] more = more
flat q ((c to-be σ) ∷ rows) more = each q (code σ) c (flat q rows more)

abbrev of : At → List ℕ → List ℕ
of σ more = flat (code σ) (table ascii σ) more

-- THE TABLE as bytes
abbrev pub rows : List ℕ
rows =
    of start (of one_more (of two_more (of after_c2 (of after_e0 (of after_ed (of after_ef (of after_ef_b7 (of after_f0 (of after_f1 (of after_f4 (of plane_end (of last []))))))))))))

abbrev pub fits : ℕ → ℕ → ℕ → ℕ → ℕ → Bool
fits q a e s b = and (eqb q s) (and (leb a b) (leb b e))

abbrev pub find : List ℕ → ℕ → ℕ → ℕ
find [] s b = 0
find (q ∷ []) s b = 0
find (q ∷ a ∷ []) s b = 0
find (q ∷ a ∷ e ∷ []) s b = 0
find (q ∷ a ∷ e ∷ n ∷ l) s b = pick (fits q a e s b) n (find l s b)

-- the table says what the machine does
abbrev ranges : Class → ℕ → ℕ → ℕ → ℕ
ranges [] b n m = m
ranges ((a to e) ∷ c) b n m = pick (and (leb a b) (leb b e)) n (ranges c b n m)

abbrev picks : List Arrow → ℕ → ℕ
picks [] b = 0
picks ((c to-be σ) ∷ rows) b = ranges c b (code σ) (picks rows b)

in_ranges : (c : Class) (b : ℕ) (σ τ : At) (m : ℕ) → code τ ≡ m → code (pick (is c b) σ τ) ≡ ranges c b (code σ) m
in_ranges [] b σ τ m e = e
in_ranges ((a to e) ∷ c) b σ τ m h = by (and (leb a b) (leb b e)) (in_ranges c b σ τ m h)
  where
    by : (x : Bool) → code (pick (is c b) σ τ) ≡ ranges c b (code σ) m → code (pick (or x (is c b)) σ τ) ≡ pick x (code σ) (ranges c b (code σ) m)
    by true i = refl
    by false i = i

in_rows : (rows : List Arrow) (b : ℕ) → code (follow rows b) ≡ picks rows b
in_rows [] b = refl
in_rows ((c to-be σ) ∷ rows) b = in_ranges c b σ (follow rows b) (picks rows b) (in_rows rows b)

pub step_code : (σ : At) (b : ℕ) → code (step σ b) ≡ find rows (code σ) b
step_code start b = in_rows (table ascii start) b
step_code done b = in_rows (table ascii start) b
step_code dead b = refl
step_code one_more b = in_rows (table ascii one_more) b
step_code two_more b = in_rows (table ascii two_more) b
step_code after_c2 b = in_rows (table ascii after_c2) b
step_code after_e0 b = in_rows (table ascii after_e0) b
step_code after_ed b = in_rows (table ascii after_ed) b
step_code after_ef b = in_rows (table ascii after_ef) b
step_code after_ef_b7 b = in_rows (table ascii after_ef_b7) b
step_code after_f0 b = in_rows (table ascii after_f0) b
step_code after_f1 b = in_rows (table ascii after_f1) b
step_code after_f4 b = in_rows (table ascii after_f4) b
step_code plane_end b = in_rows (table ascii plane_end) b
step_code last b = in_rows (table ascii last) b

pub whole_code : (σ : At) → whole σ ≡ eqb (code σ) 1
whole_code start = refl
whole_code done = refl
whole_code dead = refl
whole_code one_more = refl
whole_code two_more = refl
whole_code after_c2 = refl
whole_code after_e0 = refl
whole_code after_ed = refl
whole_code after_ef = refl
whole_code after_ef_b7 = refl
whole_code after_f0 = refl
whole_code after_f1 = refl
whole_code after_f4 = refl
whole_code plane_end = refl
whole_code last = refl

pub live_code : (σ : At) → pick (live σ) false true ≡ eqb (code σ) 0
live_code start = refl
live_code done = refl
live_code dead = refl
live_code one_more = refl
live_code two_more = refl
live_code after_c2 = refl
live_code after_e0 = refl
live_code after_ed = refl
live_code after_ef = refl
live_code after_ef_b7 = refl
live_code after_f0 = refl
live_code after_f1 = refl
live_code after_f4 = refl
live_code plane_end = refl
live_code last = refl

-- WHAT CODE LEARNS. A row of the table,
module _ (q a e s b : ℕ) where
  pub fits_other : (q ≡ s → ⊥) → fits q a e s b ≡ false
  fits_other h = rw (ne_eqb q s h) refl

  pub fits_low : q ≡ s → b < a → fits q a e s b ≡ false
  fits_low h l = rw (eq-eqb q s h, lt-leb a b l) refl

  pub fits_high : q ≡ s → a ≤ b → e < b → fits q a e s b ≡ false
  fits_high h l k = rw (eq-eqb q s h, le-leb a b l, lt-leb b e k) refl

  pub fits_yes : q ≡ s → a ≤ b → b ≤ e → fits q a e s b ≡ true
  fits_yes h l k = rw (eq-eqb q s h, le-leb a b l, le-leb b e k) refl

-- the rows from j on,
abbrev pub fits_at : List ℕ → ℕ → ℕ → ℕ → Bool
fits_at t i s b = fits (get_or t i 0) (get_or t (i + 1) 0) (get_or t (i + 2) 0) s b

four : (t : List ℕ) (i : ℕ) → i + 3 < length t → drop i t ≡ get_or t i 0 ∷ get_or t (i + 1) 0 ∷ get_or t (i + 2) 0 ∷ get_or t (i + 3) 0 ∷ drop (i + 4) t
four t i h =
    let a : suc i ≡ i + 1 = omega arith in
    let b : suc (i + 1) ≡ i + 2 = omega arith in
    let c : suc (i + 2) ≡ i + 3 = omega arith in
    let d : suc (i + 3) ≡ i + 4 = omega arith in
    drop-cons t i 0 (omega arith)
    ∙ ap (get_or t i 0 ∷◌)
    (ap (λ n. drop n t) a
    ∙ (drop-cons t (i + 1) 0 (omega arith)
    ∙ ap (get_or t (i + 1) 0 ∷◌)
    (ap (λ n. drop n t) b
    ∙ (drop-cons t (i + 2) 0 (omega arith)
    ∙ ap (get_or t (i + 2) 0 ∷◌) (ap (λ n. drop n t) c ∙ (drop-cons t (i + 3) 0 h ∙ ap (λ n. get_or t (i + 3) 0 ∷ drop n t) d))))))

module _ (t : List ℕ) (j s b : ℕ) where
  at_row : 4 * j + 3 < length t → find (drop (4 * j) t) s b ≡ pick (fits_at t (4 * j) s b) (get_or t (4 * j + 3) 0) (find (drop (4 * (j + 1)) t) s b)
  at_row l =
      let z : 4 * j + 4 ≡ 4 * (j + 1) = omega arith in
      ap (λ r. find r s b) (four t (4 * j) l) ∙ ap (λ n. pick (fits_at t (4 * j) s b) (get_or t (4 * j + 3) 0) (find (drop n t) s b)) z

  pub find_row : (x : Bool) → 4 * j + 3 < length t → x ≡ fits_at t (4 * j) s b → x ≡ true → find (drop (4 * j) t) s b ≡ get_or t (4 * j + 3) 0
  find_row x l e h = at_row l ∙ rw (← e, h) refl

  pub find_next : (x : Bool) → 4 * j + 3 < length t → x ≡ fits_at t (4 * j) s b → x ≡ false → find (drop (4 * j) t) s b ≡ find (drop (4 * (j + 1)) t) s b
  find_next x l e h = at_row l ∙ rw (← e, h) refl

  pub find_end : length t ≤ 4 * j → find (drop (4 * j) t) s b ≡ 0
  find_end l = ap (λ r. find r s b) (drop_of_length-le t l)

-- a byte before the place,
abbrev pub caught_by : ℕ → ℕ → ℕ
caught_by s b = pick (and (is tail_byte b) (eqb s 1)) s (find rows s b)

catch_code : (σ : At) (b : ℕ) → code (catch σ b) ≡ caught_by (code σ) b
catch_code σ b = rw (whole_code σ) (by (and (is tail_byte b) (eqb (code σ) 1)))
  where
    by : (x : Bool) → code (pick x σ (step σ b)) ≡ pick x (code σ) (find rows (code σ) b)
    by true = refl
    by false = step_code σ b

module _ (s b : ℕ) where
  pub caught_other : (s ≡ 1 → ⊥) → caught_by s b ≡ find rows s b
  caught_other h = rw (ne_eqb s 1 h) (by (is tail_byte b))
    where
      by : (x : Bool) → pick (and x false) s (find rows s b) ≡ find rows s b
      by true = refl
      by false = refl

  pub caught_low : b < 128 → caught_by s b ≡ find rows s b
  caught_low l = rw (lt-leb 128 b l) refl

  pub caught_high : 191 < b → caught_by s b ≡ find rows s b
  caught_high l = rw (le-leb 128 b (omega arith), lt-leb b 191 l) refl

  pub caught_tail : s ≡ 1 → 128 ≤ b → b ≤ 191 → caught_by s b ≡ s
  caught_tail h l k = rw (eq-eqb s 1 h, le-leb 128 b l, le-leb b 191 k) refl

-- and the test: s is the state before the byte at i
pub record Scanned (doc : List ℕ) (p i s : ℕ) : Type 0 where
  pub state : At
  pub is_code : s ≡ code state
  pub rest : caught state (drop i (take p doc)) ≡ caught start (three_before p doc)

get_d_take : (l : List ℕ) (p i : ℕ) → i < p → get_or (take p l) i 0 ≡ get_or l i 0
get_d_take [] (suc p) i h = refl
get_d_take (x ∷ l) (suc p) zero h = refl
get_d_take (x ∷ l) (suc p) (suc i) h = get_d_take l p i (omega arith)
get_d_take l zero i h = absurd (omega arith)

module _ (doc : List ℕ) (p : ℕ) (l : p < length doc) where
  pub scanned_first : Scanned doc p (p - 3) 1
  scanned_first = record { state = start; is_code = refl; rest = refl }

  pub scanned_more : (i s : ℕ) (r : ℕ) → Scanned doc p i s → i < p → r ≡ caught_by s (get_or doc i 0) → Scanned doc p (i + 1) r
  scanned_more i s r c h e =
      let n = length-take-le p doc (omega arith) in
      let d : drop i (take p doc) ≡ get_or doc i 0 ∷ drop (i + 1) (take p doc) =
      drop-cons (take p doc) i 0 (omega arith) ∙ (ap (λ b. b ∷ drop (suc i) (take p doc)) (get_d_take doc p i h) ∙ rw add-one refl) in
      record {
        state = catch c.state (get_or doc i 0);
        is_code = e ∙ (ap (λ n. caught_by n (get_or doc i 0)) c.is_code ∙ sym (catch_code c.state (get_or doc i 0)));
        rest = ap (caught c.state) (sym d) ∙ c.rest;
      }

  pub scanned_last : (i s r : ℕ) → Scanned doc p i s → p ≤ i → r ≡ find rows s (get_or doc p 0) → eqb r 0 ≡ bad_char p doc
  scanned_last i s r c h e =
      let n = length-take-le p doc (omega arith) in
      let k : length (take p doc) ≤ i = omega arith in
      let z : c.state ≡ caught start (three_before p doc) = ap (caught c.state) (sym (drop_of_length-le (take p doc) k)) ∙ c.rest in
      ap (λ n. eqb n 0) (e ∙ (ap (λ n. find rows n (get_or doc p 0)) c.is_code ∙ sym (step_code c.state (get_or doc p 0))))
      ∙ (sym (live_code (step c.state (get_or doc p 0))) ∙ ap (λ σ. pick (live (step σ (get_or doc p 0))) false true) z)
