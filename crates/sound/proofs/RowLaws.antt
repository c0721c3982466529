-- Laws of rows tested one by one, as `search` takes them. Assumes nothing.
use mathlib.Core.Path.{◌≡◌, refl, sym, ap, subst, ◌∙◌}
use mathlib.Core.List.{List}
use mathlib.Core.Bool.{Bool, true, false}
use Prim.Native.Nat.{ℕ, ◌+◌, ◌*◌, ◌≤◌, ◌<◌}
use native.Mathlib.Omega.{arith}
use native.Mathlib.Nat.{add-zero}
use lib.ListN.{length, get_or}
use lib.Seq.{slice}
use lib.Dec.{eqb}
use borrow.Author.Rules.{rules}
use borrow.Author.Tests.{eqb-true, eqb-false}
use Rattle.exact.specs.Tells.{Tells, tells_yes, tells_no}
use Rattle.language.specs.Kind.{KEY}
use Rattle.language.specs.Tree.{Tree, width}
use Rattle.language.specs.Lent.{bytes_in}
use Rattle.shaped.specs.Shaped.{Scripted, Scalar}
use Rattle.shaped.specs.RowsAt.{parent_at_lem}
use Rattle.std.specs.declared.option.Option.{Option}
use Rattle.std.specs.declared.option.Option.TheVariants.{Some, None}
use Rattle.sound.specs.declared.Tested.{Tested}
use Rattle.sound.specs.Members.{Sane, One, IsKey, some_size}
use Rattle.sound.specs.Tested.{Good, Tests, none_alone}
use Rattle.sound.specs.Rows.{kind_at, parent_at, Words, Texted, keyword_words, keyword_stands, scalar_words, scalar_stands, key_words, key_kind, key_stands}
use Rattle.sound.specs.Contract.{Whole, Row, TextTests}

-- ---- the words of a row

module _ (table : List ℕ) (r from to next : ℕ) where
  pub words_from : (w : ℕ) → w ≡ get_or table (width * r + 3) 0 → (w ≡ from → ⊥) → Tells (Words table r from to next) false
  words_from w e n x = n (e ∙ x.from_is)

  pub words_to : (w : ℕ) → w ≡ get_or table (width * r + 4) 0 → (w ≡ to → ⊥) → Tells (Words table r from to next) false
  words_to w e n x = n (e ∙ x.to_is)

  pub words_told : (a b c : ℕ) → a ≡ get_or table (width * r + 3) 0 → a ≡ from → b ≡ get_or table (width * r + 4) 0 → b ≡ to → c ≡ get_or table (width * r + 6) 0
      → Tells (Words table r from to next) (eqb c next)
  words_told a b c e f g h i = by (eqb c next) refl
    where
      by : (y : Bool) → eqb c next ≡ y → Tells (Words table r from to next) y
      by true z = record { from_is = sym e ∙ f; to_is = sym g ∙ h; next_is = sym i ∙ eqb-true c next z }
      by false z = λ x. eqb-false c next z (i ∙ x.next_is)

pub ruleset wording = (words_from, words_to, words_told, rules)

-- ---- a row that the text room has nothing to do with

module _ (table text : List ℕ) (stop r x allow : ℕ) (w : Row table text stop r x) where
  pub row_whole : Whole table r
  row_whole = omega (arith, w.lies.whole, w.below)

  module _ (l : 1 ≤ kind_at table r) (m : kind_at table r ≤ 3) (b : Bool) (t : Tells (Words table r 0 0 (r + 1)) b) where
    pub keyword_good : b ≡ true → Tests table text (One (Sane allow)) stop r (parent_at table r) x (Good (r + 1) x)
    keyword_good e = keyword_stands table text r (parent_at table r) x allow stop l m refl (tells_yes b e t) w.lies.inside w.below

    pub keyword_bad : b ≡ false → Tests table text (One (Sane allow)) stop r (parent_at table r) x None
    keyword_bad e = none_alone table text (λ u s h i. tells_no b e t (keyword_words table text r (parent_at table r) x allow u s h m))

  -- ---- a text

  module _ (end : ℕ) (e : end ≡ get_or table (width * r + 4) 0) where
    pub text_short : end < x → TextTests table text r x None
    text_short l to z = omega (arith, z.words.to_is, z.order)

    pub text_long : (n : ℕ) → n ≡ bytes_in text → n < end → TextTests table text r x None
    text_long n h l to z = omega (arith, z.words.to_is, z.fits)

    module _ (b : Bool) (t : Tells (Words table r x end (r + 1)) b) where
      pub text_good : (n : ℕ) → n ≡ bytes_in text → x ≤ end → end ≤ n → b ≡ true → TextTests table text r x (Good (r + 1) end)
      text_good n h l m i = (refl, record { words = tells_yes b i t; order = l; fits = omega arith })

      pub text_bad : b ≡ false → TextTests table text r x None
      text_bad i to z = tells_no b i t (subst (λ (j : ℕ). Words table r x j (r + 1)) (let q : to ≡ end = sym z.words.to_is ∙ sym e in q) z.words)

-- two texts of one row end at one place
texts_end : {table text : List ℕ} {r p x a b : ℕ} → Texted table text r p x a → Texted table text r p x b → a ≡ b
texts_end u v = sym u.words.to_is ∙ v.words.to_is

module _ (table text : List ℕ) (r x : ℕ) (q : Option Tested) (t : TextTests table text r x q) where
  pub text_ends : (w : Tested) → q ≡ Some w → Texted table text r (parent_at table r) x w.text
  text_ends w h = let z : TextTests table text r x (Some w) = rw h at t in z.1

  pub text_next : (w : Tested) → q ≡ Some w → w.row ≡ r + 1
  text_next w h = let z : TextTests table text r x (Some w) = rw h at t in z.0

  pub text_none : q ≡ None → (to : ℕ) → Texted table text r (parent_at table r) x to → ⊥
  text_none h = let z : TextTests table text r x None = rw h at t in z

  pub text_order : (w : Tested) → q ≡ Some w → x ≤ w.text
  text_order w h = (text_ends w h).order

  pub text_fits : (w : Tested) → q ≡ Some w → w.text ≤ length text
  text_fits w h = omega (arith, (text_ends w h).fits)

  -- ---- a scalar

  module _ (stop allow : ℕ) (w : Row table text stop r x) (l : 3 < kind_at table r) (m : kind_at table r ≤ 7) where
    abbrev p : ℕ
    p = parent_at table r

    pub scalar_none : q ≡ None → Tests table text (One (Sane allow)) stop r p x None
    scalar_none h =
        none_alone table text (λ u s i j. let z = scalar_words table text r p x allow u s i l m in text_none h z.0 z.1.texted)

    module _ (v : Tested) (h : q ≡ Some v) (k : ℕ) (f : k ≡ kind_at table r) (b : Bool) (y : Tells (Scalar k (slice x v.text text)) b) where
      pub scalar_good : b ≡ true → Tests table text (One (Sane allow)) stop r p x (Some v)
      scalar_good i =
          let z = scalar_stands table text r p x allow stop v.text l refl (record { texted = text_ends v h; scalar = rw f at (tells_yes b i y) }) w.below in
          rw (text_next v h) z

      pub scalar_bad : b ≡ false → Tests table text (One (Sane allow)) stop r p x None
      scalar_bad i =
          none_alone table text
          (λ u s g j.
          let z = scalar_words table text r p x allow u s g l m in
          let o = texts_end z.1.texted (text_ends v h) in
          tells_no b i y (rw f (subst (λ (c : ℕ). Scalar (kind_at table r) (slice x c text)) o z.1.scalar)))

  -- ---- a key

  module _ (stop parent : ℕ) where
    abbrev Key : Option Tested → Type 0
    Key = Tests table text (One IsKey) stop r parent x

    module _ (a b : ℕ) (g : a ≡ get_or table (width * r + 0) 0) (i : a ≡ 10) (f : b ≡ get_or table (width * r + 5) 0) (j : b ≡ parent) (l : r < stop) where
      kind_is : kind_at table r ≡ KEY
      kind_is = ap (λ (c : ℕ). get_or table c 0) (sym (add-zero (width * r))) ∙ (sym g ∙ i)

      parent_is : parent_at table r ≡ parent
      parent_is = sym f ∙ j

      pub key_none : q ≡ None → Key None
      key_none h =
          none_alone table text
          (λ u s o k.
          let z = key_words table text r parent x u s o in
          text_none h z.0 (record { words = z.1.words; order = z.1.order; fits = z.1.fits }))

      module _ (v : Tested) (h : q ≡ Some v) (c : Bool) (y : Tells (Scripted (slice x v.text text)) c) where
        ends : Texted table text r parent x v.text
        ends = let z = text_ends v h in record { words = z.words; order = z.order; fits = z.fits }

        pub key_good : c ≡ true → Key (Some v)
        key_good k = rw (text_next v h) (key_stands table text r parent x stop v.text kind_is parent_is ends (tells_yes c k y) l)

        pub key_bad : c ≡ false → Key None
        key_bad k =
            none_alone table text
            (λ u s o m.
            let z = key_words table text r parent x u s o in
            tells_no c k y (subst (λ (d : ℕ). Scripted (slice x d text)) (texts_end z.1 ends) z.2))

-- ---- no row, another kind, another parent

module _ (table text : List ℕ) (P : Tree → Type 0) (stop r p x : ℕ) where
  pub row_past : stop ≤ r → Tests table text (One P) stop r p x None
  row_past l = none_alone table text (λ t s h i. omega (arith, some_size t))

  pub row_parent : (w : ℕ) → w ≡ get_or table (width * r + 5) 0 → (w ≡ p → ⊥) → Tests table text (One P) stop r p x None
  row_parent w e n = none_alone table text (λ t s h i. n (e ∙ parent_at_lem table text t h))

pub row_no_key : (table text : List ℕ) (stop r p x w : ℕ) → w ≡ get_or table (width * r + 0) 0 → (w ≡ 10 → ⊥) → Tests table text (One IsKey) stop r p x None
row_no_key table text stop r p x w e n =
    none_alone table text (λ t s h i. n (e ∙ (ap (λ (c : ℕ). get_or table c 0) (add-zero (width * r)) ∙ key_kind table text r p x t s h)))

pub ruleset keywording = (row_whole, keyword_good, keyword_bad, rules)

pub ruleset texting = (row_whole, text_short, text_long, text_good, text_bad, rules)

pub ruleset scaling = (row_whole, text_order, text_fits, scalar_none, scalar_good, scalar_bad, rules)

pub ruleset keying = (row_past, row_no_key, row_parent, text_order, text_fits, key_none, key_good, key_bad, rules)
