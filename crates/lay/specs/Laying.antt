-- ONE VALUE OVER ANOTHER, AND ONE OBJECT OVER ANOTHER: what the code asks and promises, and how it keeps its promise pair by pair. Assumes nothing.
use Rattle.std.specs.Prelude.{◌≡◌, refl, List, [], ◌∷◌, ◌++◌, Bool, true, ℕ, ◌+◌, ◌*◌, ◌≤◌, ◌<◌, length, get_or, eqb}
use Rattle.std.proofs.Common.{sym, ap, subst, ◌∙◌, arith, length-append}
use Rattle.std.proofs.Math.Bool.{false}
use Rattle.language.specs.Tree.{Tree, Forest, more, Field, field, fields, forest, count, width, size, sizes, text_of, texts_of}
use Rattle.language.specs.Alike.{unspan, unspans}
use Rattle.spans.specs.Formed.{kind_of}
use Rattle.shaped.specs.Beside.{beside, beside_size, beside_text}
use Rattle.sound.specs.Members.{Sane}
use Rattle.sound.specs.Standing.{Kept, kept_value, At, kind_word, word_in}
use Rattle.overlay.specs.Overlay.{is_object, pairs, Value, value, absent, at, value_of, new_ones}
use Rattle.overlay.specs.Over.{clashes, over}
use Rattle.overlay.specs.Lists.{topped, mended}
use Rattle.overlay.proofs.ListsLaws.{over_other}
use Rattle.overlay.specs.Objects.{Props, props_value}
use Rattle.overlay.specs.Clash.{clashing}
use Rattle.overlay.proofs.ClashLaws.{clashes_one, clashes_other}
use Rattle.lay.specs.declared.Spot.{Spot}
use Rattle.lay.specs.declared.Grown.{Grown}
use Rattle.std.specs.Prelude.{Option, Some, None, is_some, Result, Ok, Err}
use Rattle.std.specs.Option.{unwrap_or}
use Rattle.exact.specs.Class.{clash}
use Rattle.lay.specs.declared.Clash.{Clash}
use Rattle.lay.specs.Targets.{ceiling, Stored, stored_then, stored_as, alone, alone_size, alone_text}
use Rattle.lay.specs.Keeping.{Keep, bare_size, bare_text}
use Rattle.lay.specs.Matching.{Object, Mark, mark_none, mark_some}

-- the trees of pairs, without spans, as they are stored
abbrev pub bares : List Field → Forest
bares fs = unspans (forest (fields fs))

pub bares_append : (fs gs : List Field) → bares (fs ++ gs) ≡ beside (bares fs) (bares gs)
unfolding unspans beside
bares_append [] gs = refl
bares_append (field k v ∷ fs) gs = ap (λ (f : Forest). more (unspan k) (more (unspan v) f)) (bares_append fs gs)

pub bares_pair : (k v : Tree) → bares (field k v ∷ []) ≡ beside (alone (unspan k)) (alone (unspan v))
unfolding unspans beside
bares_pair k v = refl

-- THESE TREES have room from a spot on
pub record Fits (a : Spot) (ts : Forest) : Type 0 where
  pub rows_fit : a.row + sizes ts < ceiling
  pub text_fit : a.text + length (texts_of ts) < ceiling

pub fits_as : {a : Spot} {ts us : Forest} → ts ≡ us → Fits a ts → Fits a us
fits_as {a = a} e f = subst (Fits a) e f

pub fits_first : {a : Spot} (ts us : Forest) → Fits a (beside ts us) → Fits a ts
fits_first ts us f =
    record {
      rows_fit = omega (arith, f.rows_fit, beside_size ts us);
      text_fit = omega (arith, f.text_fit, ap length (beside_text ts us), length-append (texts_of ts) (texts_of us));
    }

pub fits_behind : {a b : Spot} {p : ℕ} {ts : Forest} (us : Forest) {l m x y : List ℕ} → Fits a (beside ts us) → Stored p ts a b l m x y → Fits b us
fits_behind {ts = ts} us f s =
    record {
      rows_fit = omega (arith, f.rows_fit, beside_size ts us, s.row_is);
      text_fit = omega (arith, f.text_fit, ap length (beside_text ts us), length-append (texts_of ts) (texts_of us), s.text_is);
    }

unfoldable pub fits_keep : (table text : List ℕ) {r : ℕ} {a : Spot} (t : Tree) → Kept t → At table text r t → Fits a (alone (unspan t)) → Keep table text r a
fits_keep table text t k h f =
    record {
      tree = t;
      kept = k;
      here = h;
      rows_fit = omega (arith, f.rows_fit, alone_size (unspan t), bare_size t);
      text_fit = omega (arith, f.text_fit, ap length (alone_text (unspan t)), ap length (bare_text t));
    }

pub object_kind : {k : ℕ} {t : Tree} → Sane k t → is_object t ≡ eqb (kind_of t) 9
object_kind x = by x.shaped
  where
    by : {k : ℕ} {t : Tree} → Rattle.shaped.specs.Shaped.Shaped k t → is_object t ≡ eqb (kind_of t) 9
    by (Rattle.shaped.specs.Shaped.shaped_leaf {kind = n} x) = sym (borrow.Author.Tests.ne_eqb n 9 (λ e. omega (arith, low x)))
      where
        low : {k : ℕ} {s : List ℕ} → Rattle.shaped.specs.Shaped.Scalar k s → k ≤ 7
        low Rattle.shaped.specs.Shaped.is_null = omega arith
        low Rattle.shaped.specs.Shaped.is_false = omega arith
        low Rattle.shaped.specs.Shaped.is_true = omega arith
        low (Rattle.shaped.specs.Shaped.is_an_integer x) = omega arith
        low (Rattle.shaped.specs.Shaped.is_float x) = omega arith
        low (Rattle.shaped.specs.Shaped.is_string x) = omega arith
        low (Rattle.shaped.specs.Shaped.is_bytes x) = omega arith
    by (Rattle.shaped.specs.Shaped.shaped_array x) = refl
    by (Rattle.shaped.specs.Shaped.shaped_object x) = refl

-- ---- TWO VALUES

-- ASKED of the lower's value in row r and the upper's in row s, with at most k containers one inside another in each
pub record Two (lower lt : List ℕ) (r : ℕ) (upper ut : List ℕ) (s k : ℕ) (a : Spot) : Type 0 where
  pub under : Tree
  pub above : Tree
  pub under_sane : Sane k under
  pub above_sane : Sane k above
  pub under_here : At lower lt r under
  pub above_here : At upper ut s above
  pub few_under : r + size under < ceiling
  pub few_above : s + size above < ceiling
  pub fits : Fits a (alone (unspan (over under above)))

-- PROMISED: they clash, or the one over the other is stored
pub data Lays (t u : Tree) (p : ℕ) (a : Spot) (l m x y : List ℕ) : Result Spot Clash → Type 0 where
  lays_over : {b : Spot} → clashes t u ≡ false → Stored p (alone (unspan (over t u))) a b l m x y → Lays t u p a l m x y (Ok b)
  lays_clash : {e : Clash} → clashes t u ≡ true → Lays t u p a l m x y (Err e)

module _ (lower lt : List ℕ) (r : ℕ) (upper ut : List ℕ) (s k : ℕ) (a : Spot) (h : Two lower lt r upper ut s k a) where
  pub lay_lower_word : width * r + 0 < length lower
  lay_lower_word = word_in lower lt h.under_here 0 (omega arith)

  pub lay_upper_word : width * s + 0 < length upper
  lay_upper_word = word_in upper ut h.above_here 0 (omega arith)

  module _ {i j : ℕ} (e : i ≡ get_or lower (width * r + 0) 0) (f : j ≡ get_or upper (width * s + 0) 0) where
    under_object : (b : Bool) → eqb i 9 ≡ b → is_object h.under ≡ b
    under_object b q = object_kind h.under_sane ∙ (ap (λ (n : ℕ). eqb n 9) (sym (kind_word lower lt h.under_here e)) ∙ q)

    above_object : (b : Bool) → eqb j 9 ≡ b → is_object h.above ≡ b
    above_object b q = object_kind h.above_sane ∙ (ap (λ (n : ℕ). eqb n 9) (sym (kind_word upper ut h.above_here f)) ∙ q)

    pub lay_one : {p : ℕ} {l m x y : List ℕ} {c : Clash} → i ≡ 9 → (j ≡ 9 → ⊥) → Lays h.under h.above p a l m x y (Err c)
    lay_one u v = lays_clash (clashes_one h.under h.above (under_object true (borrow.Author.Tests.eq-eqb i 9 u)) (above_object false (borrow.Author.Tests.ne_eqb j 9 v)))

    pub lay_other : {p : ℕ} {l m x y : List ℕ} {c : Clash} → (i ≡ 9 → ⊥) → j ≡ 9 → Lays h.under h.above p a l m x y (Err c)
    lay_other u v = lays_clash (clashes_other h.under h.above (under_object false (borrow.Author.Tests.ne_eqb i 9 u)) ∙ above_object true (borrow.Author.Tests.eq-eqb j 9 v))

    module _ (u : i ≡ 9 → ⊥) where
      answered : over h.under h.above ≡ h.above
      answered = over_other h.under h.above (under_object false (borrow.Author.Tests.ne_eqb i 9 u))

      pub lay_keep : Keep upper ut s a
      lay_keep = fits_keep upper ut h.above (kept_value h.above_sane.shaped) h.above_here (fits_as (ap (λ (t : Tree). alone (unspan t)) answered) h.fits)

      pub lay_kept : (j ≡ 9 → ⊥) → {p : ℕ} {l m x y : List ℕ} {b : Spot} → ((i : Keep upper ut s a) → Stored p (alone (unspan i.tree)) a b l m x y) → Lays h.under h.above p a l m x y (Ok b)
      unfolding lay_keep fits_keep
      lay_kept v f =
          lays_over
          (clashes_other h.under h.above (under_object false (borrow.Author.Tests.ne_eqb i 9 u)) ∙ above_object false (borrow.Author.Tests.ne_eqb j 9 v))
          (stored_as (ap (λ (t : Tree). alone (unspan t)) (sym answered)) (f lay_keep))

-- ---- TWO OBJECTS

pub record Objects (lower lt : List ℕ) (r : ℕ) (upper ut : List ℕ) (s k : ℕ) (a : Spot) : Type 0 where
  pub two : Two lower lt r upper ut s k a
  pub under_object : is_object two.under ≡ true
  pub above_object : is_object two.above ≡ true

pub lay_objects : (lower lt : List ℕ) (r : ℕ) (upper ut : List ℕ) (s k : ℕ) (a : Spot) (h : Two lower lt r upper ut s k a) {i j : ℕ} → i ≡ get_or lower (width * r + 0) 0 → j ≡ get_or upper (width * s + 0) 0
    → i ≡ 9 → j ≡ 9 → Objects lower lt r upper ut s k a
lay_objects lower lt r upper ut s k a h {i} {j} e f u v =
    record {
      two = h;
      under_object = under_object lower lt r upper ut s k a h e f true (borrow.Author.Tests.eq-eqb i 9 u);
      above_object = above_object lower lt r upper ut s k a h e f true (borrow.Author.Tests.eq-eqb j 9 v);
    }

pub lay_object_told : (lower lt : List ℕ) (r : ℕ) (upper ut : List ℕ) (s k : ℕ) (a : Spot) (h : Two lower lt r upper ut s k a) {i j : ℕ} → i ≡ get_or lower (width * r + 0) 0 → j ≡ get_or upper (width * s + 0) 0
    → i ≡ 9 → j ≡ 9 → {p : ℕ} {l m x y : List ℕ} {v : Result Spot Clash} → ((o : Objects lower lt r upper ut s k a) → Lays o.two.under o.two.above p a l m x y v) → Lays h.under h.above p a l m x y v
unfolding lay_objects
lay_object_told lower lt r upper ut s k a h e f u v g = g (lay_objects lower lt r upper ut s k a h e f u v)

-- the lower's object in row r and the upper's in row s, with at most k containers one inside another in each value
pub record Both (lower lt : List ℕ) (r : ℕ) (upper ut : List ℕ) (s k : ℕ) : Type 0 where
  pub under : Object lower lt k r
  pub above : Object upper ut k s
  pub few_under : r + size under.tree < ceiling
  pub few_above : s + size above.tree < ceiling

pub record Lowers (lower lt : List ℕ) (r : ℕ) (upper ut : List ℕ) (s k : ℕ) (a : Spot) : Type 0 where
  pub both : Both lower lt r upper ut s k
  pub fits : Fits a (bares (mended (pairs both.under.tree) (pairs both.above.tree)))

pub data Lowered (fs gs : List Field) (p : ℕ) (a : Spot) (l m x y : List ℕ) : Result Spot Clash → Type 0 where
  lowered : {b : Spot} → clashing fs gs ≡ false → Stored p (bares (mended fs gs)) a b l m x y → Lowered fs gs p a l m x y (Ok b)
  lowered_clash : {e : Clash} → clashing fs gs ≡ true → Lowered fs gs p a l m x y (Err e)

-- an answer is one of the two
spot_of : Spot → Result Spot Clash → Spot
spot_of d (Ok b) = b
spot_of d (Err e) = d

same_spot : {b c : Spot} → ◌≡◌ {A = Result Spot Clash} (Ok b) (Ok c) → b ≡ c
unfolding spot_of
same_spot {b} e = ap (spot_of b) e

not_both : {b : Spot} {d : Clash} → Ok b ≡ Err d → ⊥
not_both e = let z : ◌≡◌ {A = ℕ} 0 1 = cc in omega arith

module _ {fs gs : List Field} {p : ℕ} {a : Spot} {l m x y : List ℕ} where
  pub lowered_done : {v : Result Spot Clash} {b : Spot} → v ≡ Ok b → Lowered fs gs p a l m x y v → (clashing fs gs ≡ false) × Stored p (bares (mended fs gs)) a b l m x y
  lowered_done e (lowered c s) = (c, subst (λ (z : Spot). Stored p (bares (mended fs gs)) a z l m x y) (same_spot e) s)
  lowered_done e (lowered_clash c) = absurd (not_both (sym e))

  pub lowered_clashed : {v : Result Spot Clash} {d : Clash} → v ≡ Err d → Lowered fs gs p a l m x y v → clashing fs gs ≡ true
  lowered_clashed e (lowered c s) = absurd (not_both e)
  lowered_clashed e (lowered_clash c) = c

module _ {t u : Tree} {p : ℕ} {a : Spot} {l m x y : List ℕ} where
  pub lays_done : {v : Result Spot Clash} {b : Spot} → v ≡ Ok b → Lays t u p a l m x y v → (clashes t u ≡ false) × Stored p (alone (unspan (over t u))) a b l m x y
  lays_done e (lays_over c s) = (c, subst (λ (z : Spot). Stored p (alone (unspan (over t u))) a z l m x y) (same_spot e) s)
  lays_done e (lays_clash c) = absurd (not_both (sym e))

  pub lays_clashed : {v : Result Spot Clash} {d : Clash} → v ≡ Err d → Lays t u p a l m x y v → clashes t u ≡ true
  lays_clashed e (lays_over c s) = absurd (not_both e)
  lays_clashed e (lays_clash c) = c

pub record News (upper ut : List ℕ) (s : ℕ) (lower lt : List ℕ) (r k : ℕ) (a : Spot) : Type 0 where
  pub both : Both lower lt r upper ut s k
  pub fits : Fits a (bares (new_ones (pairs both.under.tree) (pairs both.above.tree)))

pub record Grew (fs gs : List Field) (p : ℕ) (a : Spot) (g : Grown) (l m x y : List ℕ) : Type 0 where
  pub stored : Stored p (bares (new_ones fs gs)) a g.at l m x y
  pub counts : g.count ≡ count (new_ones fs gs)

-- ---- THE PAIR OF A KEY of the lower, and m, the row of that key in the upper

pub record Topping (lower lt : List ℕ) (q : ℕ) (upper ut : List ℕ) (m : Option ℕ) (k : ℕ) (a : Spot) : Type 0 where
  pub key : Tree
  pub val : Tree
  pub gs : List Field
  pub key_kept : Kept key
  pub key_here : At lower lt q key
  pub val_sane : Sane k val
  pub val_here : At lower lt (q + 1) val
  pub props : Props k gs
  pub mark : Mark upper ut gs (text_of key) m
  pub few_under : q + 1 + size val < ceiling
  pub fits : Fits a (bares (field key (topped val (value_of (text_of key) gs)) ∷ []))

-- the match is there
pub record There (upper ut : List ℕ) (gs : List Field) (s : List ℕ) (m : ℕ) : Type 0 where
  pub tree : Tree
  pub is : value_of s gs ≡ value tree
  pub here : At upper ut (m + 1) tree
  pub few : m + 1 + size tree < ceiling

pub marked_there : {upper ut : List ℕ} {gs : List Field} {s : List ℕ} {m : Option ℕ} {r : ℕ} → Mark upper ut gs s m → m ≡ Some r → There upper ut gs s r
marked_there (mark_none e) g = absurd (clash (ap is_some g) refl)
marked_there {upper} {ut} {gs} {s} (mark_some w o f e i) g = subst (There upper ut gs s) (ap (λ (x : Option ℕ). unwrap_or x 0) g) (record { tree = w; is = e; here = i; few = f })

pub marked_missing : {upper ut : List ℕ} {gs : List Field} {s : List ℕ} {m : Option ℕ} → Mark upper ut gs s m → is_some m ≡ false → value_of s gs ≡ absent
marked_missing (mark_none e) g = e
marked_missing (mark_some w o f e i) g = absurd (clash refl g)

abbrev pub clash_at : Tree → Value → Bool
clash_at v x = at (λ w. clashes v w) false x

pub data Tops (key val : Tree) (x : Value) (p : ℕ) (a : Spot) (l m u v : List ℕ) : Result Spot Clash → Type 0 where
  tops : {b : Spot} → clash_at val x ≡ false → Stored p (bares (field key (topped val x) ∷ [])) a b l m u v → Tops key val x p a l m u v (Ok b)
  tops_clash : {e : Clash} → clash_at val x ≡ true → Tops key val x p a l m u v (Err e)

module _ {key val : Tree} {z : Value} {p : ℕ} {a : Spot} {l m x y : List ℕ} where
  pub tops_done : {v : Result Spot Clash} {b : Spot} → v ≡ Ok b → Tops key val z p a l m x y v → (clash_at val z ≡ false) × Stored p (bares (field key (topped val z) ∷ [])) a b l m x y
  tops_done e (tops c s) = (c, subst (λ (w : Spot). Stored p (bares (field key (topped val z) ∷ [])) a w l m x y) (same_spot e) s)
  tops_done e (tops_clash c) = absurd (not_both (sym e))

  pub tops_clashed : {v : Result Spot Clash} {d : Clash} → v ≡ Err d → Tops key val z p a l m x y v → clash_at val z ≡ true
  tops_clashed e (tops c s) = absurd (not_both e)
  tops_clashed e (tops_clash c) = c

module _ (lower lt : List ℕ) (q : ℕ) (upper ut : List ℕ) (m : Option ℕ) (k : ℕ) (a : Spot) (h : Topping lower lt q upper ut m k a) where
  abbrev over_it : Tree
  over_it = topped h.val (value_of (text_of h.key) h.gs)

  parts : Fits a (beside (alone (unspan h.key)) (alone (unspan over_it)))
  parts = fits_as (bares_pair h.key over_it) h.fits

  pub pair_key : Keep lower lt q a
  pair_key = fits_keep lower lt h.key h.key_kept h.key_here (fits_first (alone (unspan h.key)) (alone (unspan over_it)) parts)

  pub pair_there : {r : ℕ} → m ≡ Some r → r + 1 < ceiling
  pair_there z = omega (arith, (marked_there h.mark z).few)

  pub pair_next : q + 1 < ceiling
  pair_next = omega (arith, h.few_under)

  module _ {p : ℕ} {b : Spot} {l l' x x' : List ℕ} (f : (i : Keep lower lt q a) → Stored p (alone (unspan i.tree)) a b l l' x x') where
    keyed : Stored p (alone (unspan h.key)) a b l l' x x'
    unfolding pair_key fits_keep
    keyed = f pair_key

    rest : Fits b (alone (unspan over_it))
    rest = fits_behind (alone (unspan over_it)) parts keyed

    stored_pair : {c : Spot} {l'' x'' : List ℕ} (t : Tree) → over_it ≡ t → Stored p (alone (unspan t)) b c l' l'' x' x'' → Stored p (bares (field h.key over_it ∷ [])) a c l l'' x x''
    stored_pair t e s = stored_as (sym (bares_pair h.key over_it)) (stored_then keyed (stored_as (ap (λ (u : Tree). alone (unspan u)) (sym e)) s))

    -- the upper has no such key
    module _ (z : m ≡ None) where
      missing : value_of (text_of h.key) h.gs ≡ absent
      missing = marked_missing h.mark (ap is_some z)

      lone : over_it ≡ h.val
      lone = ap (topped h.val) missing

      pub pair_alone : Keep lower lt (q + 1) b
      pair_alone = fits_keep lower lt h.val (kept_value h.val_sane.shaped) h.val_here (fits_as (ap (λ (u : Tree). alone (unspan u)) lone) rest)

      pub pair_kept : {c : Spot} {l'' x'' : List ℕ} → ((i : Keep lower lt (q + 1) b) → Stored p (alone (unspan i.tree)) b c l' l'' x' x'')
          → Tops h.key h.val (value_of (text_of h.key) h.gs) p a l l'' x x'' (Ok c)
      unfolding pair_alone fits_keep
      pair_kept g = tops (ap (clash_at h.val) missing) (stored_pair h.val lone (g pair_alone))

    -- the upper has it
    module _ {r : ℕ} (z : m ≡ Some r) where
      there : There upper ut h.gs (text_of h.key) r
      there = marked_there h.mark z

      pub pair_two : Two lower lt (q + 1) upper ut (r + 1) k b
      pair_two =
          let w = there in
          record {
            under = h.val;
            above = w.tree;
            under_sane = h.val_sane;
            above_sane = props_value (text_of h.key) h.props w.is;
            under_here = h.val_here;
            above_here = w.here;
            few_under = h.few_under;
            few_above = w.few;
            fits = fits_as (ap (λ (u : Value). alone (unspan (topped h.val u))) w.is) rest;
          }

      pub pair_laid : {l'' x'' : List ℕ} {v : Result Spot Clash} → ((i : Two lower lt (q + 1) upper ut (r + 1) k b) → Lays i.under i.above p b l' l'' x' x'' v)
          → Tops h.key h.val (value_of (text_of h.key) h.gs) p a l l'' x x'' v
      unfolding pair_two
      pair_laid {l''} {x''} g = by (g pair_two)
        where
          by : {v : Result Spot Clash} → Lays h.val there.tree p b l' l'' x' x'' v → Tops h.key h.val (value_of (text_of h.key) h.gs) p a l l'' x x'' v
          by (lays_over c s) = tops (ap (clash_at h.val) there.is ∙ c) (stored_pair (over h.val there.tree) (ap (topped h.val) there.is) s)
          by (lays_clash c) = tops_clash (ap (clash_at h.val) there.is ∙ c)
