-- Laws of versions tested and compared. Assumes nothing.
use Rattle.std.proofs.Common.{◌≡◌, ℕ, zero, suc, ◌+◌, ◌≤◌, ◌<◌, Bool, true, false, List, length, MatchBool, Ok, refl, sym, ap, ap₂, subst, ◌∙◌, arith}
use Rattle.std.specs.List.{range_with_len, AllWithin, HoldsAt}
use Rattle.std.proofs.lemmas.List.FromFn.{length-range_with_len, get_or-range_with_len}
use Rattle.std.specs.Ordering.{is_ne, is_ge, is_gt}
use Rattle.std.specs.declared.cmp.Ordering.{Ordering}
use Rattle.std.specs.declared.cmp.Ordering.TheVariants.{Less, Equal, Greater}
use Rattle.exact.specs.Tells.{Tells}
use Rattle.questions.specs.Text.{text_of}
use Rattle.integers.specs.Integer.{is_integer, empty, integer, natural}
use Rattle.integers.specs.Order.{Compared, not_int, compared_verdict, compared, order_of}
use Rattle.upgrade.specs.Order as order
use Rattle.decide.specs.Rows.{kind_at, count_at, zero_text, natural_greater, natural_equal, natural_less, natural_not, naturals_say, Said, NaturalRow, NaturalRows, VersionRow, place_text, number_at}
use Rattle.decide.specs.Contract.{Versions, AboveRow}
use Rattle.decide.specs.Deciding.{place_natural, above_here, below_here, level_all}

-- ---- one place

module _ (table : List ℕ) (rows : ℕ) (text : List ℕ) (r : ℕ) where
  module _ (s : List ℕ) (h : s ≡ text_of table rows text r) where
    verdict : (c : Compared) → compared_verdict c ≡ compared s zero_text → compared_verdict c ≡ compared (text_of table rows text r) zero_text
    verdict c v = v ∙ ap (λ t. compared t zero_text) h

    pub natural_not_told : compared_verdict not_int ≡ compared s zero_text → NaturalRow table rows text r → ⊥
    natural_not_told v x = natural_not (verdict not_int v) x.natural

    pub natural_told : r < rows → kind_at table r ≡ 4 → (o : Ordering) → compared_verdict (Ok o) ≡ compared s zero_text → Tells (NaturalRow table rows text r) (is_ge o)
    natural_told l k Less v = λ x. natural_less (verdict (Ok Less) v) x.natural
    natural_told l k Equal v = record { inside = l; kind_is = k; natural = natural_equal (verdict (Ok Equal) v) }
    natural_told l k Greater v = record { inside = l; kind_is = k; natural = natural_greater (verdict (Ok Greater) v) }

-- ---- a version

module _ (table : List ℕ) (rows : ℕ) (text : List ℕ) where
  -- what `all` tells of rows one behind another
  pub all_naturals : (from n : ℕ) (b : Bool)
      → MatchBool b (AllWithin (NaturalRow table rows text) (range_with_len from n) 0 (length (range_with_len from n)))
      ((k : ℕ) × (k < length (range_with_len from n)) × HoldsAt (λ i. NaturalRow table rows text i → ⊥) (range_with_len from n) k)
      → Tells (NaturalRows table rows text from n) b
  all_naturals from n true h =
      λ i l. subst (NaturalRow table rows text) (get_or-range_with_len from n i 0 l) (h i 0 (omega arith) (omega (arith, length-range_with_len from n)))
  all_naturals from n false h =
      λ x. h.2 0 (subst (NaturalRow table rows text) (sym (get_or-range_with_len from n h.0 0 (omega (arith, h.1, length-range_with_len from n)))) (x h.0 (omega (arith, h.1, length-range_with_len from n))))

  pub version_told : (r n : ℕ) → n ≡ count_at table r → kind_at table r ≡ 8 → (n ≡ 0 → ⊥) → n ≤ 8 → (b : Bool) → Tells (NaturalRows table rows text (r + 1) n) b
      → Tells (VersionRow table rows text r) b
  version_told r n e k m l true t = record { kind_is = k; some = by n refl; few = omega arith; places = λ q h. t q (omega arith) }
    where
      by : (j : ℕ) → j ≡ n → 1 ≤ count_at table r
      by zero g = absurd (m (sym g))
      by (suc j) g = omega arith
  version_told r n e k m l false t = λ x. t (λ q h. x.places q (omega arith))

-- ---- which is above

-- where both places are missing
zeros : compared_verdict (Ok Equal) ≡ compared zero_text zero_text
unfolding compared order_of is_integer empty integer natural
zeros = refl

pub order_missing : (a b : List ℕ) → a ≡ zero_text → b ≡ zero_text → compared_verdict (Ok Equal) ≡ compared a b
order_missing a b p q = rw (p, q) zeros

-- the places before the i-th are equal
pub record Level (table : List ℕ) (rows : ℕ) (text : List ℕ) (r : ℕ) (other : List ℕ) (rows' : ℕ) (text' : List ℕ) (s i : ℕ) : Type 0 where
  pub so : order.Equal (number_at table rows text r) (number_at other rows' text' s) i

module _ (table : List ℕ) (rows : ℕ) (text : List ℕ) (r : ℕ) (other : List ℕ) (rows' : ℕ) (text' : List ℕ) (s : ℕ) where
  pub level_first : Level table rows text r other rows' text' s 0
  level_first = record { so = λ i l. absurd (omega arith) }

  module _ (x : Versions table rows text r other rows' text' s) (i : ℕ) (a b : List ℕ) (p : a ≡ place_text table rows text r i) (q : b ≡ place_text other rows' text' s i) where
    said : (c : Compared) → compared_verdict c ≡ compared a b → Said c (number_at table rows text r i) (number_at other rows' text' s i)
    said c h =
        naturals_say (place_text table rows text r i) (place_text other rows' text' s i) c (place_natural x.version i) (place_natural x.other_version i)
        (h ∙ ap₂ compared p q)

    module _ (y : Level table rows text r other rows' text' s i) where
      pub above_told : (o : Ordering) → is_ne o ≡ true → compared_verdict (Ok o) ≡ compared a b → Tells (AboveRow table rows text r other rows' text' s) (is_gt o)
      above_told Less n h = below_here y.so (said (Ok Less) h)
      above_told Equal n h = cc
      above_told Greater n h = above_here y.so (said (Ok Greater) h)

      pub above_never : compared_verdict not_int ≡ compared a b → AboveRow table rows text r other rows' text' s → ⊥
      above_never h = absurd (said not_int h)

      pub level_more : (o : Ordering) → is_ne o ≡ false → compared_verdict (Ok o) ≡ compared a b → Level table rows text r other rows' text' s (i + 1)
      level_more Less e h = cc
      level_more Greater e h = cc
      level_more Equal e h = record { so = subst (order.Equal (number_at table rows text r) (number_at other rows' text' s)) (omega arith) (order.equal_more y.so (said (Ok Equal) h)) }

  pub above_level : Versions table rows text r other rows' text' s → (i : ℕ) → Level table rows text r other rows' text' s i → 8 ≤ i → AboveRow table rows text r other rows' text' s → ⊥
  above_level v i x l = level_all v.version v.other_version x.so l
