-- The test for CHAR: laws as `search` takes them. Assumes nothing.
use mathlib.Core.Path.{◌≡◌, sym, ap, ◌∙◌, subst}
use mathlib.Core.List.{List}
use mathlib.Core.Bool.{Bool, true, false}
use Prim.Native.Nat.{ℕ, ◌+◌, ◌-◌, ◌*◌, ◌≤◌, ◌<◌}
use native.Mathlib.Omega.{arith}
use lib.ListN.{length, drop, get_or, drop_of_length-le}
use lib.Dec.{eqb}
use borrow.Author.Rules.{rules}
use Rattle.characters.specs.Reads.{Skip}
use Rattle.std.specs.declared.option.Option.{Option}
use Rattle.std.specs.declared.option.Option.TheVariants.{Some}
use Rattle.std.specs.declared.result.Result.TheVariants.{Err, Ok}
use Rattle.utf8.specs.Utf8.{char_r, start}
use Rattle.characters.specs.Reads.{Stands, ReadAt, Wide, WideAt}
use Rattle.characters.specs.Rest.{Rest, rest_whole}
use Rattle.characters.specs.Going.{low_stands, Going, going_first, going_over, going_none, going_more, going_done, wide_refused}
use Rattle.characters.specs.Value.{Between, Tail, Added, wide_digits, stands_as}
use Rattle.utf8.specs.Allowed.{bad_char}
use Rattle.utf8.specs.Scan.{rows, find, fits_at, fits_other, fits_low, fits_high, fits_yes, find_row, find_next, find_end, caught_by, caught_other, caught_low, caught_high, caught_tail, Scanned, scanned_first, scanned_more, scanned_last}

module _ (t : List ℕ) (i s b : ℕ) where
  pub row_other : (get_or t i 0 ≡ s → ⊥) → false ≡ fits_at t i s b
  row_other h = sym (fits_other (get_or t i 0) (get_or t (i + 1) 0) (get_or t (i + 2) 0) s b h)

  pub row_low : get_or t i 0 ≡ s → b < get_or t (i + 1) 0 → false ≡ fits_at t i s b
  row_low h l = sym (fits_low (get_or t i 0) (get_or t (i + 1) 0) (get_or t (i + 2) 0) s b h l)

  pub row_high : get_or t i 0 ≡ s → get_or t (i + 1) 0 ≤ b → get_or t (i + 2) 0 < b → false ≡ fits_at t i s b
  row_high h l k = sym (fits_high (get_or t i 0) (get_or t (i + 1) 0) (get_or t (i + 2) 0) s b h l k)

  pub row_yes : get_or t i 0 ≡ s → get_or t (i + 1) 0 ≤ b → b ≤ get_or t (i + 2) 0 → true ≡ fits_at t i s b
  row_yes h l k = sym (fits_yes (get_or t i 0) (get_or t (i + 1) 0) (get_or t (i + 2) 0) s b h l k)

-- the rows from j on
module _ (t : List ℕ) (j s b : ℕ) (inv : find t s b ≡ find (drop (4 * j) t) s b) (n : length t ≡ 176) where
  pub step_found : (x : Bool) → j < 44 → x ≡ fits_at t (4 * j) s b → x ≡ true → get_or t (4 * j + 3) 0 ≡ find t s b
  step_found x l e h = sym (inv ∙ find_row t j s b x (omega arith) e h)

  pub step_next : (x : Bool) → j < 44 → x ≡ fits_at t (4 * j) s b → x ≡ false → find t s b ≡ find (drop (4 * (j + 1)) t) s b
  step_next x l e h = inv ∙ find_next t j s b x (omega arith) e h

  pub step_none : 44 ≤ j → 0 ≡ find t s b
  step_none l = sym (inv ∙ find_end t j s b (omega arith))

-- the state after a byte
module _ (t : List ℕ) (e : t ≡ rows) (s b : ℕ) where
  pub same_find : (r : ℕ) → r ≡ find t s b → r ≡ find rows s b
  same_find r h = h ∙ ap (λ l. find l s b) e

  pub catch_other : (r : ℕ) → (s ≡ 1 → ⊥) → r ≡ find t s b → r ≡ caught_by s b
  catch_other r n h = same_find r h ∙ sym (caught_other s b n)

  pub catch_low : (r : ℕ) → b < 128 → r ≡ find t s b → r ≡ caught_by s b
  catch_low r l h = same_find r h ∙ sym (caught_low s b l)

  pub catch_high : (r : ℕ) → 191 < b → r ≡ find t s b → r ≡ caught_by s b
  catch_high r l h = same_find r h ∙ sym (caught_high s b l)

pub catch_tail : (s b : ℕ) → s ≡ 1 → 128 ≤ b → b ≤ 191 → s ≡ caught_by s b
catch_tail s b h l k = sym (caught_tail s b h l k)

pub table_long : (t : List ℕ) → t ≡ rows → length t ≡ 176
table_long t e = ap length e

-- the byte at the place
pub is_bad : (doc t : List ℕ) (p i s r : ℕ) → p < length doc → t ≡ rows → Scanned doc p i s → p ≤ i → r ≡ find t s (get_or doc p 0) → eqb r 0 ≡ bad_char p doc
is_bad doc t p i s r l e c h k = scanned_last doc p l i s r c h (same_find t e s (get_or doc p 0) r k)

pub scan_first : (doc : List ℕ) (p i : ℕ) → p < length doc → i ≡ p - 3 → Scanned doc p i 1
scan_first doc p i l e = rw e (scanned_first doc p l)

-- a character of 128 or more, byte by byte
module _ (doc t : List ℕ) (at i s r : ℕ) (e : t ≡ rows) (start : at < length doc) (high : 128 ≤ get_or doc at 0) (g : Going doc at i s) where
  pub wide_none : i < length doc → r ≡ find t s (get_or doc i 0) → r ≡ 0 → WideAt doc at (Err i)
  unfolding WideAt
  wide_none l h z = wide_refused doc at i start high (going_none doc at i s g l r (same_find t e s (get_or doc i 0) r h) z)

  pub wide_ends : i < length doc → r ≡ find t s (get_or doc i 0) → r ≡ 1 → WideAt doc at (Ok (i + 1))
  unfolding WideAt
  wide_ends l h z = going_done doc at i s g l r (same_find t e s (get_or doc i 0) r h) z high

  pub wide_on : i < length doc → r ≡ find t s (get_or doc i 0) → (r ≡ 0 → ⊥) → (r ≡ 1 → ⊥) → Going doc at (i + 1) r
  wide_on l h z o = going_more doc at i s g l r (same_find t e s (get_or doc i 0) r h) z o

  pub wide_over : length doc ≤ i → WideAt doc at (Err i)
  unfolding WideAt
  wide_over h = wide_refused doc at i start high (going_over doc at i s g h)

  pub wide_whole : length doc ≤ i → i ≤ length doc → WideAt doc at (Err (length doc))
  wide_whole h k = let z : i ≡ length doc = omega arith in subst (λ n. WideAt doc at (Err n)) z (wide_over h)

pub ruleset walking = (wide_none, wide_ends, wide_on, wide_whole, going_first, table_long, rules)

-- its scalar value
module _ (doc : List ℕ) (a e : ℕ) (w : Wide doc a e) where
  pub second_in : a + 1 < length doc
  second_in = omega (arith, (wide_digits doc a e w).second, w.stands.inside)

  pub second_tail : Tail (get_or doc (a + 1) 0)
  second_tail = (wide_digits doc a e w).second.1

  pub third_in : (e - a ≡ 2 → ⊥) → a + 2 < length doc
  third_in h = omega (arith, (wide_digits doc a e w).third h, w.stands.inside)

  pub third_tail : (e - a ≡ 2 → ⊥) → Tail (get_or doc (a + 2) 0)
  third_tail h = ((wide_digits doc a e w).third h).1

  pub fourth_in : (e - a ≡ 2 → ⊥) → (e - a ≡ 3 → ⊥) → a + 3 < length doc
  fourth_in h k = omega (arith, ((wide_digits doc a e w).four h k).0, w.stands.inside)

  pub fourth_tail : (e - a ≡ 2 → ⊥) → (e - a ≡ 3 → ⊥) → Tail (get_or doc (a + 3) 0)
  fourth_tail h k = ((wide_digits doc a e w).four h k).1

  pub first_two : e - a ≡ 2 → Between 192 223 (get_or doc a 0)
  first_two h = ((wide_digits doc a e w).two h).0

  pub first_three : e - a ≡ 3 → Between 224 239 (get_or doc a 0)
  first_three h = ((wide_digits doc a e w).three h).0

  pub first_four : (e - a ≡ 2 → ⊥) → (e - a ≡ 3 → ⊥) → Between 240 244 (get_or doc a 0)
  first_four h k = ((wide_digits doc a e w).four h k).2

  pub value_two : (r y : ℕ) → e - a ≡ 2 → Added (get_or doc (a + 1) 0) y → r ≡ 64 * (get_or doc a 0 - 192) + y → Stands doc a r e
  value_two r y h p k = stands_as doc a e w r (omega (arith, ((wide_digits doc a e w).two h).1, p.is))

  pub value_three : (r y z : ℕ) → e - a ≡ 3 → Added (get_or doc (a + 1) 0) y → Added (get_or doc (a + 2) 0) z → r ≡ 4096 * (get_or doc a 0 - 224) + 64 * y + z → Stands doc a r e
  value_three r y z h p q k = stands_as doc a e w r (omega (arith, ((wide_digits doc a e w).three h).1, p.is, q.is))

  pub value_four : (r x y z : ℕ) → (e - a ≡ 2 → ⊥) → (e - a ≡ 3 → ⊥) → Added (get_or doc (a + 1) 0) x → Added (get_or doc (a + 2) 0) y → Added (get_or doc (a + 3) 0) z
      → r ≡ 262144 * (get_or doc a 0 - 240) + 4096 * x + 64 * y + z → Stands doc a r e
  value_four r x y z h k p q o m = stands_as doc a e w r (omega (arith, ((wide_digits doc a e w).four h k).3, p.is, q.is, o.is))

pub ruleset valued = (second_in, second_tail, third_in, third_tail, fourth_in, fourth_tail, first_two, first_three, first_four, value_two, value_three, value_four, rules)

-- ---- reading one character

module _ (doc : List ℕ) (at : ℕ) where
  pub read_none : length doc ≤ at → ReadAt doc at (Err at)
  unfolding ReadAt
  read_none h plain = ap (char_r plain at) (drop_of_length-le doc h)

  pub read_low : (b : ℕ) → at < length doc → b ≡ get_or doc at 0 → b < 128 → ReadAt doc at (Ok (b, (record { at = at + 1 })))
  unfolding ReadAt
  read_low b l e h = low_stands doc at b l e h

  pub read_wide : (n v : ℕ) → Stands doc at v n → ReadAt doc at (Ok (v, (record { at = n })))
  unfolding ReadAt
  read_wide n v s = s

  pub read_not : (r : Skip) (p : ℕ) → r ≡ Err p → WideAt doc at r → ReadAt doc at (Err p)
  unfolding ReadAt WideAt
  read_not r p e h = rw e at h

  -- where it ends, by the table and by the states
  pub wide_known : (r : Skip) (e n : ℕ) → WideAt doc at r → r ≡ Ok n → e ≡ n → Wide doc at e
  unfolding WideAt
  wide_known r e n h k z = rw z (rw k at h)

  pub whole_known : (r : Option ℕ) (e n : ℕ) → Rest doc at start r → 128 ≤ get_or doc at 0 → r ≡ Some n → e ≡ n → Wide doc at e
  whole_known r e n q h k z = rw z (rest_whole doc at r n k q h)

pub ruleset reading = (read_none, read_low, read_wide, read_not, wide_known, whole_known, rules)

pub ruleset chars = (step_found, step_next, step_none, is_bad, row_other, row_low, row_high, row_yes, catch_other, catch_low, catch_high, catch_tail, table_long, scan_first, scanned_more, rules)
