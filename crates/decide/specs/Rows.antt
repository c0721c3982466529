-- VERSIONS AND IMAGES IN ROWS: what the code tests of a row and of the texts that the questions answer, and the number of each place. The promise does not rest on these. Assumes nothing.
use mathlib.Core.Path.{◌≡◌, refl, sym, ap, subst, ◌∙◌}
use Rattle.std.specs.Prelude.{true, List, [], ◌∷◌, ℕ, ◌+◌, ◌*◌, ◌≤◌, ◌<◌, length, get_or, ltb, ℤ, pos, negsuc, ◌<ℤ◌, Ok, Err}
use Rattle.std.proofs.Common.{arith, ltb→lt}
use Rattle.notation.specs.Class.{pick}
use Rattle.language.specs.Kind.{INTEGER, BYTES, ARRAY}
use Rattle.language.specs.Tree.{width}
use Rattle.language.specs.Lent.{words_in}
use Rattle.questions.specs.Text.{text_of}
use Rattle.std.specs.declared.cmp.Ordering.TheVariants.{Less, Equal, Greater}
use Rattle.integers.specs.Integer.{is_integer, empty, natural, integer}
use Rattle.integers.specs.Order.{Compared, not_int, compared_verdict, compared}
use Rattle.integers.specs.Ordered.{Told, compare_order, compare_integers}
use Rattle.integers.specs.Sized.{Says}
use Rattle.upgrade.specs.Version.{most}

-- the kind that a row names, and the count of its elements or pairs
abbrev pub kind_at : List ℕ → ℕ → ℕ
kind_at table r = get_or table (width * r) 0

abbrev pub count_at : List ℕ → ℕ → ℕ
count_at table r = get_or table (width * r + 4) 0

-- row r stands in the table
abbrev pub Whole : List ℕ → ℕ → Type 0
Whole table r = width * (r + 1) ≤ length table

-- the rows are within what the table counts for, and r is one of them
pub record Inside (table : List ℕ) (rows r : ℕ) : Type 0 where
  pub fits : width * rows ≤ words_in table
  pub below : r < rows

-- ---- numbers not below zero

pub record Natural (s : List ℕ) : Type 0 where
  pub text : is_integer s ≡ true
  pub value : ℕ
  pub is : integer s ≡ pos value

abbrev pub zero_text : List ℕ
zero_text = 48 ∷ []

-- an integer as a number, where it is not below zero
abbrev number : ℤ → ℕ
number (pos n) = n
number (negsuc n) = 0

unfoldable pub value_of : List ℕ → ℕ
value_of s = number (integer s)

pub value_is : {s : List ℕ} → Natural s → integer s ≡ pos (value_of s)
unfolding value_of
value_is n = n.is ∙ ap (λ (z : ℤ). pos (number z)) (sym n.is)

pub value_one : (s : List ℕ) {n : ℕ} → integer s ≡ pos n → value_of s ≡ n
unfolding value_of
value_one s e = ap number e

pub zero_natural : Natural zero_text
unfolding is_integer empty integer natural
zero_natural = record { text = refl; value = 0; is = refl }

pub zero_value : value_of zero_text ≡ 0
unfolding value_of integer natural
zero_value = refl

at_least : (z : ℤ) → pos 0 <ℤ z → (n : ℕ) × (z ≡ pos n)
at_least (pos n) h = (n, refl)
at_least (negsuc n) h = absurd h.lt

not_less : {z : ℤ} {n : ℕ} → z ≡ pos n → z <ℤ pos 0 → ⊥
not_less {z} {n} e h = let k : pos n <ℤ pos 0 = subst (λ (y : ℤ). y <ℤ pos 0) e h in let g = ltb→lt n 0 k.lt in omega arith

-- WHAT COMPARING WITH ZERO TELLS
module _ {s : List ℕ} where
  pub natural_greater : compared_verdict (Ok Greater) ≡ compared s zero_text → Natural s
  unfolding integer natural
  natural_greater h =
      let p = compare_integers s zero_text (Ok Greater) (λ e. cc) h in
      let g = at_least (integer s) ((compare_order s zero_text p.0 p.1 (Ok Greater)).0 h) in
      record { text = p.0; value = g.0; is = g.1 }

  pub natural_equal : compared_verdict (Ok Equal) ≡ compared s zero_text → Natural s
  unfolding integer natural
  natural_equal h =
      let p = compare_integers s zero_text (Ok Equal) (λ e. cc) h in
      record { text = p.0; value = 0; is = (compare_order s zero_text p.0 p.1 (Ok Equal)).0 h }

  pub natural_less : compared_verdict (Ok Less) ≡ compared s zero_text → Natural s → ⊥
  unfolding is_integer empty integer natural
  natural_less h n = not_less n.is ((compare_order s zero_text n.text refl (Ok Less)).0 h)

  pub natural_not : compared_verdict not_int ≡ compared s zero_text → Natural s → ⊥
  unfolding is_integer empty integer natural
  natural_not h n = (compare_order s zero_text n.text refl not_int).0 h

-- WHAT COMPARING TWO OF THEM TELLS
less_numbers : {m n : ℕ} → pos m <ℤ pos n → m < n
less_numbers {m} {n} h = ltb→lt m n h.lt

-- what an answer of `compare` says of two numbers
abbrev pub Said : Compared → ℕ → ℕ → Type 0
Said (Ok o) m n = Says o m n
Said (Err _) m n = ⊥

told_says : (c : Compared) (m n : ℕ) → Told c (pos m) (pos n) → Said c m n
told_says (Ok Less) m n h = less_numbers h
told_says (Ok Equal) m n h = ap number h
told_says (Ok Greater) m n h = less_numbers h
told_says (Err _) m n h = h

pub naturals_say : (s t : List ℕ) (c : Compared) → Natural s → Natural t → compared_verdict c ≡ compared s t → Said c (value_of s) (value_of t)
naturals_say s t c m n h =
    told_says c (value_of s) (value_of t) (mathlib.Core.Path.subst₂ (λ (x y : ℤ). Told c x y) (value_is m) (value_is n) ((compare_order s t m.text n.text c).0 h))

-- ---- rows

module _ (table : List ℕ) (rows : ℕ) (text : List ℕ) where
  -- an integer not below zero
  pub record NaturalRow (r : ℕ) : Type 0 where
    pub inside : r < rows
    pub kind_is : kind_at table r ≡ INTEGER
    pub natural : Natural (text_of table rows text r)

  -- so many of them, from a row on
  abbrev pub NaturalRows : ℕ → ℕ → Type 0
  NaturalRows from n = (i : ℕ) → i < n → NaturalRow (from + i)

  pub record VersionRow (r : ℕ) : Type 0 where
    pub kind_is : kind_at table r ≡ ARRAY
    pub some : 1 ≤ count_at table r
    pub few : count_at table r ≤ most
    pub places : NaturalRows (r + 1) (count_at table r)

  pub record ImageRow (r : ℕ) : Type 0 where
    pub kind_is : kind_at table r ≡ BYTES
    pub long : length (text_of table rows text r) ≡ 32

  -- the text of a place, and its number; "missing places counting as zero"
  unfoldable pub place_text : ℕ → ℕ → List ℕ
  place_text r i = pick (ltb i (count_at table r)) (text_of table rows text (r + 1 + i)) zero_text

  abbrev pub number_at : ℕ → ℕ → ℕ
  number_at r i = value_of (place_text r i)
