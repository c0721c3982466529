-- THE LINES OF A CONTAINER'S CHILDREN: a turn of the loop that writes them. Assumes nothing.
use Rattle.std.specs.Prelude.{◌≡◌, List, [], ◌∷◌, ◌++◌, Bool, true, false, ℕ, zero, suc, ◌+◌, ◌-◌, ◌*◌, ◌≤◌, ◌<◌, get_or, eqb}
use Rattle.std.proofs.Math.Path.{refl, ap, subst}
use Rattle.std.proofs.Common.{sym, ◌∙◌, append_assoc, append-nil, zero-add, suc-add}
use native.Mathlib.Omega.{arith}
use Rattle.std.proofs.Math.ListN.{length, drop}
use Rattle.std.proofs.lemmas.List.{drop-append-le}
use Rattle.std.proofs.Math.Seq.{drop-nil}
use Rattle.notation.specs.Class.{pick}
use Rattle.exact.specs.Class.{clash}
use Rattle.language.specs.Kind.{KEY}
use Rattle.language.specs.Tree.{Tree, leaf, node, Forest, none, more, width, size, sizes, text_of}
use Rattle.language.specs.BlockText.{spaces}
use Rattle.language.specs.House.{flat, is_key, inline, value, item, block, items, properties}
use Rattle.spans.specs.Formed.{kind_of}
use Rattle.house.specs.Leaves.{no_key}
use Rattle.shaped.specs.RowsAt.{ForestAt, first_at, rest_at, next_at}
use Rattle.shaped.specs.Shaped.{Shaped, shaped_leaf, shaped_array, shaped_object, Elements, elements_none, elements_more, Pairs, pairs_none, pairs_more}
use Rattle.writer.specs.Puts.{ceiling, Puts, puts_none, puts_as, puts_then, length_spaces}
use Rattle.writer.specs.Flat.{Kept, kept_key, kept_value, size_some, sizes_some, At, Along, kind_word, word_in, node_along}
use Rattle.writer.specs.Children.{lengths}
use Rattle.writer.specs.Lines.{head_text, child_text, columns, Head, Child, Block}

-- the lines of children, and what is said of these
abbrev pub lines_of : Bool → ℕ → Forest → List ℕ
lines_of true n ts = items n ts
lines_of false n ts = properties n ts

pub data Ranks : Bool → ℕ → Forest → Type 0 where
  ranks_items : {k n : ℕ} {ts : Forest} → Elements k n ts → Ranks true k ts
  ranks_pairs : {k n : ℕ} {ts : Forest} → Pairs k n ts → Ranks false k ts

-- n - m spaces less
spaces_drop : (k m : ℕ) → drop k (spaces (k + m)) ≡ spaces m
spaces_drop zero m = rw zero-add
spaces_drop (suc k) m = rw (suc-add k m) (spaces_drop k m)

less : (n m : ℕ) (w : List ℕ) → m ≤ n → drop (n - m) (spaces n ++ w) ≡ spaces m ++ w
less n m w l =
    let e : n ≡ n - m + m = omega arith in
    drop-append-le (n - m) (spaces n) w (omega (arith, length_spaces n))
    ∙ ap (λ u. u ++ w) (ap (λ i. drop (n - m) (spaces i)) e ∙ spaces_drop (n - m) m)

-- an item's lines, with m spaces before the dash
items_less : (n m : ℕ) (t : Tree) (ts : Forest) → m ≤ n → drop (n - m) (items n (more t ts)) ≡ (head_text true m t ++ child_text true n t) ++ items n ts
unfolding items
items_less n m t ts l =
    let e : suc (suc n) ≡ n + 2 = omega arith in
    let w = item (suc (suc n)) t (block (suc (suc n)) t) in
    ap (drop (n - m)) (append_assoc (spaces n) (45 ∷ 32 ∷ w) (items n ts))
    ∙ (less n m ((45 ∷ 32 ∷ w) ++ items n ts) l
    ∙ (sym (append_assoc (spaces m) (45 ∷ 32 ∷ w) (items n ts))
    ∙ (ap (λ u. u ++ items n ts) (sym (append_assoc (spaces m) (45 ∷ 32 ∷ []) w)) ∙ ap (λ i. ((spaces m ++ 45 ∷ 32 ∷ []) ++ item i t (block i t)) ++ items n ts) e)))

-- a property's
properties_less : (n m : ℕ) (y v : Tree) (ts : Forest) → is_key y ≡ true → is_key v ≡ false → m ≤ n
    → drop (n - m) (properties n (more y (more v ts))) ≡ (head_text false m y ++ child_text false n v) ++ properties n ts
unfolding properties
properties_less n m y v ts a b l =
    let e : suc (suc n) ≡ n + 2 = omega arith in
    let w = value v (block (suc (suc n)) v) in
    let u = w ++ properties n ts in
    rw (a, b)
    (ap (drop (n - m)) (append_assoc (spaces n ++ inline y) (58 ∷ []) u ∙ append_assoc (spaces n) (inline y) (58 ∷ u))
    ∙ (less n m (inline y ++ 58 ∷ u) l
    ∙ (sym (append_assoc (spaces m ++ inline y) (58 ∷ []) u ∙ append_assoc (spaces m) (inline y) (58 ∷ u))
    ∙ (sym (append_assoc (head_text false m y) w (properties n ts)) ∙ ap (λ i. (head_text false m y ++ value v (block i v)) ++ properties n ts) e))))

-- the children of a container
abbrev pub below : Tree → Forest
below (leaf k a e s) = none
below (node k a e c ts) = ts

lines_none : (b : Bool) (n : ℕ) → lines_of b n none ≡ []
unfolding items properties
lines_none true n = refl
lines_none false n = refl

module _ (table text : List ℕ) where
  -- the next child
  record Next (at stop n m skip : ℕ) (b : Bool) (deep : ℕ) (ts : Forest) : Type 0 where
    head : Tree
    child : Tree
    rest : Forest
    kept : Kept head
    shaped : Shaped deep child
    before : At table text at head
    here : At table text (at + skip) child
    behind : Along table text (get_or table (width * (at + skip) + 6) 0) stop rest
    ranks : Ranks b deep rest
    ahead : at < get_or table (width * (at + skip) + 6) 0
    is : drop (n - m) (lines_of b n ts) ≡ (head_text b m head ++ child_text b n child) ++ lines_of b n rest

  along_first : {r stop : ℕ} {t : Tree} {ts : Forest} → Along table text r stop (more t ts) → At table text r t
  unfolding sizes
  along_first h = record { parent = h.parent; start = h.start; rows = first_at table text h.rows; fits = omega (arith, h.ends, h.fits) }

  along_rest : {r stop : ℕ} {t : Tree} {ts : Forest} → Along table text r stop (more t ts) → (n : ℕ) → n ≡ r + size t → Along table text n stop ts
  unfolding sizes
  along_rest {t = t} {ts = ts} h n e =
      record {
        parent = h.parent;
        start = h.start + length (text_of t);
        rows = subst (λ i. ForestAt table text i h.parent (h.start + length (text_of t)) ts) (sym e) (rest_at table text h.rows);
        ends = omega (arith, h.ends);
        fits = h.fits;
      }

  next : {at stop n m skip deep : ℕ} {b : Bool} {ts : Forest} → Ranks b deep ts → skip ≡ pick b 0 1 → Along table text at stop ts → at < stop → m ≤ n → Next at stop n m skip b deep ts
  unfolding sizes
  next (ranks_items elements_none) e h l k = absurd (omega (arith, h.ends))
  next {at} {stop} {n} {m} {skip} (ranks_items (elements_more {t = t} {ts = ts} x xs)) e h l k =
      let a = along_first h in
      let i : at + skip ≡ at = omega arith in
      let f : At table text (at + skip) t = subst (λ j. At table text j t) (sym i) a in
      let w = next_at table text t f.rows in
      record {
        head = t;
        child = t;
        rest = ts;
        kept = kept_value x;
        shaped = x;
        before = a;
        here = f;
        behind = along_rest h _ (w ∙ ap (λ j. j + size t) i);
        ranks = ranks_items xs;
        ahead = omega (arith, size_some t);
        is = items_less n m t ts k;
      }
  next (ranks_pairs pairs_none) e h l k = absurd (omega (arith, h.ends))
  next {at} {stop} {n} {m} {skip} (ranks_pairs (pairs_more {a = a} {e = z} {s = s} {v = v} {ts = ts} y x xs)) e h l k =
      let c = along_rest h (at + skip) (one e) in
      let f = along_first c in
      let w = next_at table text v f.rows in
      record {
        head = leaf KEY a z s;
        child = v;
        rest = ts;
        kept = kept_key y;
        shaped = x;
        before = along_first h;
        here = f;
        behind = along_rest c _ w;
        ranks = ranks_pairs xs;
        ahead = omega (arith, size_some v);
        is = properties_less n m (leaf KEY a z s) v ts refl (no_key x) k;
      }
    where
      one : skip ≡ 1 → at + skip ≡ at + size (leaf KEY a z s)
      one q = ap (at +◌) q

  -- what is left of a container's children, of whose lines some are written from x up to y; m spaces come next
  pub record Rest (x stop n : ℕ) (b : Bool) (whole : List ℕ) (at y m : ℕ) (out out' : List ℕ) : Type 0 where
    pub trees : Forest
    pub deep : ℕ
    pub ranks : Ranks b deep trees
    pub column : n + 2 + 2 * deep ≤ columns
    pub here : Along table text at stop trees
    pub bytes : List ℕ
    pub is : whole ≡ bytes ++ drop (n - m) (lines_of b n trees)
    pub puts : Puts bytes x y out out'
    pub low : m ≤ n

  -- a container that is not empty has children
  record Opens (r n : ℕ) (t : Tree) (b : Bool) (k : ℕ) : Type 0 where
    trees : Forest
    deep : ℕ
    ranks : Ranks b deep trees
    depth : k ≡ suc deep
    here : Along table text (r + 1) (get_or table (width * r + 6) 0) trees
    is : block n t ≡ lines_of b n trees

  opens : {r n k : ℕ} {t : Tree} → Shaped k t → flat t ≡ false → At table text r t → Opens r n t (eqb (kind_of t) 8) k
  unfolding block
  opens (shaped_leaf x) f h = absurd (clash refl f)
  opens (shaped_array {k = k} {ts = ts} x) f h = record { trees = ts; deep = k; ranks = ranks_items x; depth = refl; here = node_along table text h; is = refl }
  opens (shaped_object {k = k} {ts = ts} x) f h = record { trees = ts; deep = k; ranks = ranks_pairs x; depth = refl; here = node_along table text h; is = refl }

  pub rest_start : {r n lead x kind stop : ℕ} {out : List ℕ} (h : Block table text r n lead x) → kind ≡ get_or table (width * r + 0) 0 → stop ≡ get_or table (width * r + 6) 0
      → Rest x stop n (eqb kind 8) (drop (n - lead) (block n h.tree)) (r + 1) x lead out out
  rest_start {r} {n} {lead} {x} {kind} {stop} h e f =
      let k = kind_word table text h.here e in
      let o : Opens r n h.tree (eqb kind 8) h.deep = subst (λ i. Opens r n h.tree (eqb i 8) h.deep) (sym k) (opens h.shaped h.full h.here) in
      record {
        trees = o.trees;
        deep = o.deep;
        ranks = o.ranks;
        column = omega (arith, h.column, o.depth);
        here = subst (λ i. Along table text (r + 1) i o.trees) (sym f) o.here;
        bytes = [];
        is = ap (drop (n - lead)) o.is;
        puts = puts_none;
        low = h.low;
      }

  pub rest_end : {x stop n at y m : ℕ} {b : Bool} {whole out out' : List ℕ} → Rest x stop n b whole at y m out out' → stop ≤ at → Puts whole x y out out'
  rest_end {stop = stop} {n = n} {at = at} {m = m} {b = b} h l =
      puts_as (sym (h.is ∙ (ap (λ w. h.bytes ++ w) (by h.trees h.here) ∙ append-nil h.bytes))) h.puts
    where
      by : (us : Forest) → Along table text at stop us → drop (n - m) (lines_of b n us) ≡ []
      by none a = ap (drop (n - m)) (lines_none b n) ∙ drop-nil (n - m)
      by (more t us) a = absurd (omega (arith, a.ends, sizes_some t us))

  module _ {x stop n at y m skip : ℕ} {b : Bool} {whole out out' : List ℕ} (room : x + length whole ≤ ceiling) (h : Rest x stop n b whole at y m out out') (l : at < stop) (e : skip ≡ pick b 0 1) where
    one : Next at stop n m skip b h.deep h.trees
    one = next h.ranks e h.here l h.low

    all_is : whole ≡ h.bytes ++ ((head_text b m one.head ++ child_text b n one.child) ++ lines_of b n one.rest)
    all_is = h.is ∙ ap (λ w. h.bytes ++ w) one.is

    sum : x + (length h.bytes + (length (head_text b m one.head) + (length (child_text b n one.child) + length (lines_of b n one.rest)))) ≤ ceiling
    sum =
        subst
        (λ i. x + i ≤ ceiling)
        (ap length all_is ∙ lengths h.bytes (head_text b m one.head) (child_text b n one.child) (lines_of b n one.rest))
        room

    pub rest_head : Head table text at b m y
    rest_head = record { tree = one.head; kept = one.kept; here = one.before; room = omega (arith, sum, h.puts.ends) }

    pub rest_word : width * (at + skip) + 6 < length table
    rest_word = word_in table text one.here 6 (omega arith)

    pub rest_ahead : {i : ℕ} → i ≡ get_or table (width * (at + skip) + 6) 0 → (at < i) × (i ≤ stop)
    rest_ahead q = (omega (arith, one.ahead), omega (arith, one.behind.ends))

    pub rest_below : (at ≤ at + skip) × (get_or table (width * (at + skip) + 6) 0 ≤ stop)
    rest_below = (omega arith, omega (arith, one.behind.ends))

    module _ {z : ℕ} {mid : List ℕ} (p : (i : Head table text at b m y) → Puts (head_text b m i.tree) y z out' mid) where
      pub rest_child : Child table text (at + skip) b n z
      unfolding rest_head
      rest_child =
          record {
            tree = one.child;
            deep = h.deep;
            shaped = one.shaped;
            here = one.here;
            column = h.column;
            room = omega (arith, sum, h.puts.ends, (p rest_head).ends);
          }

      pub rest_again : {i v : ℕ} {new : List ℕ} → ((i : Child table text (at + skip) b n z) → Puts (child_text b n i.tree) z v mid new)
          → i ≡ get_or table (width * (at + skip) + 6) 0 → Rest x stop n b whole i v n out new
      unfolding rest_head rest_child
      rest_again {i} q f =
          let w = head_text b m one.head in
          let c = child_text b n one.child in
          let u = lines_of b n one.rest in
          let o : n - n ≡ 0 = omega arith in
          record {
            trees = one.rest;
            deep = h.deep;
            ranks = one.ranks;
            column = h.column;
            here = subst (λ j. Along table text j stop one.rest) (sym f) one.behind;
            bytes = h.bytes ++ (w ++ c);
            is = all_is ∙ (sym (append_assoc h.bytes (w ++ c) u) ∙ ap (λ j. (h.bytes ++ (w ++ c)) ++ drop j u) (sym o));
            puts = puts_then h.puts (puts_then (p rest_head) (q rest_child));
            low = omega arith;
          }
