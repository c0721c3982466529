-- THE PAIRS OF AN OBJECT IN A TABLE (`Stand`), one after another, and the row of a key's match among them (`Mark`). Assumes nothing.
use mathlib.Core.Path.{◌≡◌, refl, sym, ap, subst, subst₂, ◌∙◌}
use mathlib.Core.List.{List, [], ◌∷◌, ◌++◌}
use Rattle.std.specs.Prelude.{Bool, true, false, ℕ, zero, suc, ◌+◌, ◌-◌, ◌*◌, ◌≤◌, ◌<◌, get_or, set, take, drop, Option, Some, None}
use Rattle.std.proofs.Common.{arith, length-drop, get_or-set_same, get_or-set_other, length-take-le}
use Rattle.std.proofs.Math.ListN.{length}
use Rattle.std.proofs.Math.Seq.{slice}
use Rattle.std.specs.Option.{unwrap_or}
use Rattle.exact.specs.Tells.{Tells, tells_yes, tells_no}
use Rattle.language.specs.Kind.{KEY}
use Rattle.language.specs.Tree.{Tree, leaf, Forest, none, more, Decoded, Field, field, width, size, sizes, text_of}
use Rattle.shaped.specs.RowsAt.{ForestAt, first_at, rest_at, next_at, leaf_row}
use Rattle.shaped.specs.Leaves.{part_is, part_fits}
use Rattle.shaped.specs.Shaped.{Pairs, pairs_none, pairs_more, shaped_leaf, shaped_array, shaped_object}
use Rattle.sound.specs.Members.{Sane}
use Rattle.sound.specs.Keys.{text_at, beyond}
use Rattle.sound.specs.Pairwise.{Named}
use Rattle.sound.specs.Standing.{Kept, kept_key, size_some, sizes_some, At, Along, next_word, node_along}
use Rattle.overlay.specs.Overlay.{is_object, pairs_of, pairs, value, absent, value_of}
use Rattle.overlay.specs.Lists.{value_here, value_there}
use Rattle.overlay.specs.Objects.{Props, props_more}
use Rattle.overlay.proofs.ObjectsLaws.{sane_props}
use Rattle.exact.specs.Class.{clash}
use Rattle.lay.specs.Targets.{ceiling}

-- so many rows a table can have
pub few_rows : (table text : List ℕ) {r stop : ℕ} {ts : Forest} → Along table text r stop ts → width * stop ≤ length table
few_rows table text h = h.fits

-- PAIRS that are left of an object, from row r up to `stop`
pub record Stand (table text : List ℕ) (k r stop : ℕ) (ts : Forest) : Type 0 where
  pub count : ℕ
  pub pairs_are : Pairs k count ts
  pub props : Props k (pairs_of ts)
  pub here : Along table text r stop ts

-- the first of them: its key, its value, those behind it
pub record Pair (table text : List ℕ) (k r stop : ℕ) (ts : Forest) : Type 0 where
  pub key : Tree
  pub val : Tree
  pub rest : Forest
  pub is : pairs_of ts ≡ field key val ∷ pairs_of rest
  pub key_kept : Kept key
  pub key_here : At table text r key
  pub key_size : size key ≡ 1
  pub val_sane : Sane k val
  pub val_here : At table text (r + 1) val
  pub text_is : text_at table text r ≡ text_of key
  pub named : Named table text r
  pub apart : value_of (text_of key) (pairs_of rest) ≡ absent
  pub behind : Stand table text k (beyond table r) stop rest
  pub onward : r + 1 < beyond table r
  pub within : beyond table r ≤ stop

module _ (table text : List ℕ) where
  key_text : {r p x a e : ℕ} {d : Decoded} → Rattle.shaped.specs.RowsAt.RowsAt table text r p x (leaf KEY a e d) → text_at table text r ≡ d.bytes
  key_text h = mathlib.Core.Path.ap₂ (λ (i j : ℕ). slice i j text) (leaf_row table text h).from_is (leaf_row table text h).to_is ∙ sym (part_is table text h)

  first_pair : {k r stop n : ℕ} {ts : Forest} → Pairs k n ts → Props k (pairs_of ts) → Along table text r stop ts → r < stop → Pair table text k r stop ts
  unfolding sizes size pairs_of text_of
  first_pair pairs_none ps h l = absurd (omega (arith, h.ends))
  first_pair {k} {r} {stop} (pairs_more {a = a} {e = e} {n = n} {s = d} {v = v} {ts = ts} x y qs) (props_more z w o ps) h l =
      let kr = first_at table text h.rows in
      let vr = first_at table text (rest_at table text h.rows) in
      let b : beyond table r ≡ r + 1 + size v = next_at table text v vr in
      let g = leaf_row table text kr in
      let f = part_fits table text kr in
      record {
        key = leaf KEY a e d;
        val = v;
        rest = ts;
        is = refl;
        key_kept = kept_key x;
        key_here = record { parent = h.parent; start = h.start; rows = kr; fits = omega (arith, h.ends, h.fits) };
        key_size = refl;
        val_sane = w;
        val_here = record { parent = h.parent; start = h.start + length d.bytes; rows = vr; fits = omega (arith, h.ends, h.fits) };
        text_is = key_text kr;
        named = record { whole = omega (arith, h.ends, h.fits); part = record { order = omega (arith, g.from_is, g.to_is); fits = omega (arith, g.to_is) } };
        apart = o;
        behind =
            record {
              count = n;
              pairs_are = qs;
              props = ps;
              here =
                  record {
                    parent = h.parent;
                    start = h.start + length d.bytes + length (text_of v);
                    rows = subst (λ (i : ℕ). ForestAt table text i h.parent (h.start + length d.bytes + length (text_of v)) ts) (sym b) (rest_at table text (rest_at table text h.rows));
                    ends = omega (arith, h.ends);
                    fits = h.fits;
                  };
            };
        onward = omega (arith, size_some v);
        within = omega (arith, h.ends);
      }

  pub stand_first : {k r stop : ℕ} {ts : Forest} → Stand table text k r stop ts → r < stop → Pair table text k r stop ts
  stand_first s l = first_pair s.pairs_are s.props s.here l

  pub stand_none : {k r stop : ℕ} {ts : Forest} → Stand table text k r stop ts → stop ≤ r → pairs_of ts ≡ []
  unfolding pairs_of
  stand_none {r = r} {stop = stop} {ts = ts} s l = by ts s.here
    where
      by : (us : Forest) → Along table text r stop us → pairs_of us ≡ []
      by none h = refl
      by (more t us) h = absurd (omega (arith, h.ends, sizes_some t us))

  -- AN OBJECT in row s, and its pairs
  pub record Object (k s : ℕ) : Type 0 where
    pub tree : Tree
    pub sane : Sane (suc k) tree
    pub object : is_object tree ≡ true
    pub here : At table text s tree

  pub record Inside (k s stop : ℕ) (t : Tree) : Type 0 where
    pub trees : Forest
    pub are : pairs t ≡ pairs_of trees
    pub stands : Stand table text k (s + 1) stop trees
    pub counts : get_or table (width * s + 4) 0 ≡ stands.count

  pub inside : {k s : ℕ} (stop : ℕ) → stop ≡ get_or table (width * s + 6) 0 → (o : Object k s) → Inside k s stop o.tree
  inside {k} {s} stop e o = by o.sane.shaped o.object o.here (sane_props o.sane o.object)
    where
      by : {t : Tree} → Rattle.shaped.specs.Shaped.Shaped (suc k) t → is_object t ≡ true → At table text s t → Props k (pairs t) → Inside k s stop t
      by (shaped_leaf x) q h ps = absurd (clash q refl)
      by (shaped_array x) q h ps = absurd (clash q refl)
      by (shaped_object {n = n} {ts = ts} x) q h ps =
          record {
            trees = ts;
            are = refl;
            stands = record { count = n; pairs_are = x; props = ps; here = subst (λ (i : ℕ). Along table text (s + 1) i ts) (sym e) (node_along table text h) };
            counts = (Rattle.shaped.specs.RowsAt.node_row table text h.rows).to_is;
          }

-- THE MATCH of the text s among pairs that stand in a table: the row of that key, which is not the first
pub data Mark (table text : List ℕ) (gs : List Field) (s : List ℕ) : Option ℕ → Type 0 where
  mark_none : value_of s gs ≡ absent → Mark table text gs s None
  mark_some : {m : ℕ} (w : Tree) → 0 < m → m + 1 + size w < ceiling → value_of s gs ≡ value w → At table text (m + 1) w → Mark table text gs s (Some m)

-- the row that a word of the marks says, 0 for none
pub row_of : ℕ → Option ℕ
row_of zero = None
row_of (suc n) = Some (suc n)

pub row_some : {m : ℕ} → (m ≡ 0 → ⊥) → row_of m ≡ Some m
unfolding row_of
row_some {m = zero} l = absurd (l refl)
row_some {m = suc n} l = refl

pub row_none : {m : ℕ} → m ≡ 0 → row_of m ≡ None
unfolding row_of
row_none e = rw e refl

pub mark_word : {table text : List ℕ} {gs : List Field} {s : List ℕ} {o : Option ℕ} {m : ℕ} → m ≡ unwrap_or o 0 → Mark table text gs s o → Mark table text gs s (row_of m)
mark_word {table} {text} {gs} {s} {m = m} e x = by x e
  where
    by : {o : Option ℕ} → Mark table text gs s o → m ≡ unwrap_or o 0 → Mark table text gs s (row_of m)
    by (mark_none a) f = subst (Mark table text gs s) (sym (row_none f)) (mark_none a)
    by (mark_some {m = n} w p l a i) f =
        let g : row_of m ≡ Some n = row_some (λ z. omega arith) ∙ ap Some f in
        subst (Mark table text gs s) (sym g) (mark_some w p l a i)

-- so many of these pairs have their matches in the marks from the i-th on
pub data Marks (table text : List ℕ) (gs : List Field) (marks : List ℕ) (n : ℕ) : ℕ → List Field → Type 0 where
  marks_end : {fs : List Field} → Marks table text gs marks n n fs
  marks_more : {i : ℕ} {k v : Tree} {fs : List Field} → i < n → Mark table text gs (text_of k) (row_of (get_or marks i 0)) → Marks table text gs marks n (i + 1) fs
      → Marks table text gs marks n i (field k v ∷ fs)

-- ---- one key sought among the pairs of an object

pub record Seek (table text : List ℕ) (from stop : ℕ) : Type 0 where
  pub deep : ℕ
  pub trees : Forest
  pub stands : Stand table text deep from stop trees
  pub some : 0 < from
  pub few : stop < ceiling

module _ (table text s : List ℕ) (from stop : ℕ) where
  pub record Seeking (gs : List Field) (r : ℕ) : Type 0 where
    pub deep : ℕ
    pub left : Forest
    pub stands : Stand table text deep r stop left
    pub is : value_of s gs ≡ value_of s (pairs_of left)

  pub seek_start : (h : Seek table text from stop) → Seeking (pairs_of h.trees) from
  seek_start h = record { deep = h.deep; left = h.trees; stands = h.stands; is = refl }

  module _ (gs : List Field) (r : ℕ) (x : Seeking gs r) where
    pub seek_end : stop ≤ r → Mark table text gs s None
    unfolding value_of
    seek_end l = mark_none (x.is ∙ ap (value_of s) (stand_none table text x.stands l))

    module _ (l : r < stop) where
      one : Pair table text x.deep r stop x.left
      one = stand_first table text x.stands l

      pub seek_named : Named table text r
      seek_named = one.named

      pub seek_word : width * (r + 1) + 6 < length table
      seek_word = omega (arith, one.val_here.fits, size_some one.val)

      pub seek_ahead : {n : ℕ} → n ≡ get_or table (width * (r + 1) + 6) 0 → (r < n) × (n ≤ stop)
      seek_ahead e = (omega (arith, one.onward), omega (arith, one.within))

      module _ (b : Bool) (t : Tells (s ≡ text_at table text r) b) where
        pub seek_found : b ≡ true → 0 < r → stop < ceiling → Mark table text gs s (Some r)
        seek_found e p g =
            let q : s ≡ text_of one.key = tells_yes b e t ∙ one.text_is in
            let v = next_word table text one.val_here refl in
            mark_some one.val p (omega (arith, one.within)) (x.is ∙ (ap (value_of s) one.is ∙ value_here s one.key one.val (pairs_of one.rest) q)) one.val_here

        pub seek_on : b ≡ false → {n : ℕ} → n ≡ get_or table (width * (r + 1) + 6) 0 → Seeking gs n
        seek_on e f =
            record {
              deep = x.deep;
              left = one.rest;
              stands = subst (λ (i : ℕ). Stand table text x.deep i stop one.rest) (sym f) one.behind;
              is = x.is ∙ (ap (value_of s) one.is ∙ value_there s one.key one.val (pairs_of one.rest) (λ q. tells_no b e t (q ∙ sym one.text_is)));
            }

-- ---- the keys of an object, each sought in another

-- the pairs from row q up to `end`, and the other object in row s
pub record Match (table text : List ℕ) (q end : ℕ) (other words : List ℕ) (s : ℕ) : Type 0 where
  pub deep : ℕ
  pub trees : Forest
  pub stands : Stand table text deep q end trees
  pub few : end < ceiling
  pub level : ℕ
  pub object : Object other words level s
  pub few_others : get_or other (width * s + 6) 0 < ceiling

pub record Matched (table text : List ℕ) (q end : ℕ) (other words : List ℕ) (s : ℕ) (marks : List ℕ) (most n : ℕ) : Type 0 where
  pub some : q < end → 0 < n
  pub low : n ≤ most
  pub marked : (h : Match table text q end other words s) → Marks other words (pairs h.object.tree) marks n 0 (pairs_of h.trees)

module _ (table text : List ℕ) (q end : ℕ) (other words : List ℕ) (s : ℕ) (h : Match table text q end other words s) where
  pub match_word : width * s + 6 < length other
  match_word = omega (arith, h.object.here.fits, size_some h.object.tree)

  pub match_seek : (stop : ℕ) → stop ≡ get_or other (width * s + 6) 0 → Seek other words (s + 1) stop
  match_seek stop e =
      let i = inside other words stop e h.object in
      record { deep = h.level; trees = i.trees; stands = i.stands; some = omega arith; few = omega (arith, h.few_others) }

  pub match_mark : (stop : ℕ) (e : stop ≡ get_or other (width * s + 6) 0) {t : List ℕ} {m : Option ℕ} → ((k : Seek other words (s + 1) stop) → Mark other words (pairs_of k.trees) t m)
      → Mark other words (pairs h.object.tree) t m
  unfolding match_seek
  match_mark stop e {t} {m} f =
      let i = inside other words stop e h.object in
      subst (λ (gs : List Field). Mark other words gs t m) (sym i.are) (f (match_seek stop e))

  -- the first n marks are those of the first n pairs, whatever is stored behind them
  pub record Filling (marks : List ℕ) (n r : ℕ) : Type 0 where
    pub left : Forest
    pub stands : Stand table text h.deep r end left
    pub glue : (marks' : List ℕ) (m : ℕ) → n ≤ m → ((k : ℕ) → k < n → get_or marks' k 0 ≡ get_or marks k 0)
        → Marks other words (pairs h.object.tree) marks' m n (pairs_of left) → Marks other words (pairs h.object.tree) marks' m 0 (pairs_of h.trees)

  pub fill_start : {marks : List ℕ} → Filling marks 0 q
  fill_start = record { left = h.trees; stands = h.stands; glue = λ marks' m l f x. x }

  module _ (marks : List ℕ) (n r : ℕ) (x : Filling marks n r) where
    pub fill_end : Marks other words (pairs h.object.tree) marks n 0 (pairs_of h.trees)
    fill_end = x.glue marks n (omega arith) (λ k l. refl) marks_end

    module _ (l : r < end) where
      first : Pair table text h.deep r end x.left
      first = stand_first table text x.stands l

      pub fill_named : Named table text r
      fill_named = first.named

      pub fill_word : width * (r + 1) + 6 < length table
      fill_word = omega (arith, first.val_here.fits, size_some first.val)

      pub fill_ahead : {i : ℕ} → i ≡ get_or table (width * (r + 1) + 6) 0 → (r < i) × (i ≤ end)
      fill_ahead e = (omega (arith, first.onward), omega (arith, first.within))

      pub fill_on : {i : ℕ} (m : ℕ) → i ≡ get_or table (width * (r + 1) + 6) 0 → n < length marks → Mark other words (pairs h.object.tree) (text_at table text r) (row_of m) → Filling (set marks n m) (n + 1) i
      fill_on {i} m e g y =
          record {
            left = first.rest;
            stands = subst (λ (j : ℕ). Stand table text h.deep j end first.rest) (sym e) first.behind;
            glue =
                λ marks' o p f z.
                x.glue marks' o (omega arith) (λ k j. f k (omega arith) ∙ get_or-set_other marks n k m 0 (λ u. omega arith))
                (subst
                (Marks other words (pairs h.object.tree) marks' o n)
                (sym first.is)
                (marks_more (omega arith) (subst₂ (Mark other words (pairs h.object.tree)) first.text_is (sym (ap row_of (f n (omega arith) ∙ get_or-set_same marks n m 0 g))) y) z));
          }

-- ---- marks read one after another, and new ones made where none are left

pub record Refill (table text : List ℕ) (q end : ℕ) (other words : List ℕ) (s : ℕ) (marks : List ℕ) (n i : ℕ) : Type 0 where
  pub match : Match table text q end other words s
  pub marked : Marks other words (pairs match.object.tree) marks n i (pairs_of match.trees)

pub record Refilled (table text : List ℕ) (q end : ℕ) (other words : List ℕ) (s : ℕ) (marks : List ℕ) (n i : ℕ) (marks' : List ℕ) (most n' i' : ℕ) : Type 0 where
  pub some : i' < n'
  pub low : n' ≤ most
  pub marked : (h : Refill table text q end other words s marks n i) → Marks other words (pairs h.match.object.tree) marks' n' i' (pairs_of h.match.trees)

pub refill_kept : {table text : List ℕ} {q end : ℕ} {other words : List ℕ} {s : ℕ} {marks : List ℕ} {most n i : ℕ} → i < n → n ≤ most
    → Refilled table text q end other words s marks n i marks most n i
refill_kept l m = record { some = l; low = m; marked = λ h. h.marked }

pub refill_new : {table text : List ℕ} {q end : ℕ} {other words : List ℕ} {s : ℕ} {marks marks' : List ℕ} {most n i m : ℕ} → q < end → Matched table text q end other words s marks' most m
    → Refilled table text q end other words s marks n i marks' most m 0
refill_new l x = record { some = x.some l; low = x.low; marked = λ h. x.marked h.match }

-- the first of the marks that are left
pub marks_first : {table text : List ℕ} {gs : List Field} {marks : List ℕ} {n i : ℕ} {fs : List Field} {k v : Tree} {us : List Field} → fs ≡ field k v ∷ us → i < n
    → Marks table text gs marks n i fs → Mark table text gs (text_of k) (row_of (get_or marks i 0)) × Marks table text gs marks n (i + 1) us
marks_first {table} {text} {gs} {marks} {n} {i} e l x = by (subst (Marks table text gs marks n i) e x) l
  where
    by : {j : ℕ} {k v : Tree} {us : List Field} → Marks table text gs marks n j (field k v ∷ us) → j < n → Mark table text gs (text_of k) (row_of (get_or marks j 0)) × Marks table text gs marks n (j + 1) us
    by marks_end l = absurd (omega arith)
    by (marks_more g m y) l = (m, y)

-- marks that agree below n
pub marks_agree : {table text : List ℕ} {gs : List Field} {marks marks' : List ℕ} {n i : ℕ} {fs : List Field} → ((j : ℕ) → j < n → get_or marks' j 0 ≡ get_or marks j 0)
    → Marks table text gs marks n i fs → Marks table text gs marks' n i fs
marks_agree f marks_end = marks_end
marks_agree {table} {text} {gs} f (marks_more {i = i} {k = k} l m x) = marks_more l (subst (Mark table text gs (text_of k)) (sym (ap row_of (f i l))) m) (marks_agree f x)

-- a part of the marks is lent from the n-th on
front : (xs ys : List ℕ) (n j : ℕ) → n ≤ length xs → j < n → get_or (take n xs ++ ys) j 0 ≡ get_or xs j 0
front xs ys zero j l m = absurd (omega arith)
front [] ys (suc n) j l m = absurd (omega arith)
front (x ∷ xs) ys (suc n) zero l m = refl
front (x ∷ xs) ys (suc n) (suc j) l m = front xs ys n j (omega arith) (omega arith)

pub lent_agree : (xs ys : List ℕ) (n : ℕ) → n ≤ length xs → (j : ℕ) → j < n → get_or (take n xs ++ ys) j 0 ≡ get_or xs j 0
lent_agree xs ys n l j m = front xs ys n j l m

-- .. which has so much room
module _ (xs : List ℕ) (n d : ℕ) (e : length xs ≡ d) where
  part_length : n ≤ d → length (take (length xs - n) (drop n xs)) ≡ d - n
  part_length l = length-take-le (length xs - n) (drop n xs) (omega (arith, length-drop n xs)) ∙ (let z : length xs - n ≡ d - n = omega arith in z)

  pub lent_room : (k most : ℕ) → n ≤ most → most + k ≤ d → k ≤ length (take (length xs - n) (drop n xs))
  lent_room k most l m = omega (arith, part_length (omega arith))

  pub lent_few : (most k c : ℕ) → n ≤ most → most + k ≤ d → d < c → length (take (length xs - n) (drop n xs)) < c
  lent_few most k c l m g = omega (arith, part_length (omega arith))

module _ {table text : List ℕ} {q end : ℕ} {other words : List ℕ} {s : ℕ} {marks : List ℕ} {n i : ℕ} {marks' : List ℕ} {most n' i' : ℕ}
    (w : Refilled table text q end other words s marks n i marks' most n' i') {d : ℕ} (e : length marks' ≡ d) (k : ℕ) (m : most + k ≤ d) where
  pub refilled_room : k ≤ length (take (length marks' - n') (drop n' marks'))
  refilled_room = lent_room marks' n' d e k most w.low m

  pub refilled_few : (c : ℕ) → d < c → length (take (length marks' - n') (drop n' marks')) < c
  refilled_few c g = lent_few marks' n' d e most k c w.low m g
