-- CHILDREN ON ONE LINE, one behind another: a turn of the loop that writes them. Assumes nothing.
use Rattle.std.specs.Prelude.{◌≡◌, Bool, ℕ, ◌+◌, ◌*◌, ◌≤◌, ◌<◌, get_or, eqb}
use Rattle.std.proofs.Math.Path.{refl, sym, ap, subst}
use Rattle.std.proofs.Common.{ap₂, ◌∙◌, arith, length-append, eq-eqb, ne_eqb}
use mathlib.Core.List.{List, [], ◌∷◌, ◌++◌, append_assoc, append-nil}
use Rattle.std.proofs.Math.ListN.{length}
use Rattle.notation.specs.Class.{pick}
use Rattle.language.specs.Tree.{Tree, Forest, none, more, width, sizes, text_of}
use Rattle.language.specs.House.{is_key, is_none, between, inline, inlines}
use Rattle.spans.specs.Formed.{kind_of}
use Rattle.shaped.specs.RowsAt.{ForestAt, first_at, rest_at, next_at}
use Rattle.shaped.specs.Shaped.{shaped_leaf, shaped_array, shaped_object}
use Rattle.writer.specs.Puts.{ceiling, Puts, puts_none, puts_as, puts_then}
use Rattle.writer.specs.Flat.{Kept, kept_key, kept_value, Kepts, kepts_none, kepts_more, separator, size_some, sizes_some, At, Along, Inline, Inlines, kind_word, word_in}

-- a key is told by its kind
kept_kind : {t : Tree} → Kept t → is_key t ≡ eqb (kind_of t) 10
kept_kind (kept_key x) = refl
kept_kind (kept_value (shaped_leaf x)) = refl
kept_kind (kept_value (shaped_array x)) = refl
kept_kind (kept_value (shaped_object x)) = refl

-- lists one behind another
pub lengths : (a b c d : List ℕ) → length (a ++ ((b ++ c) ++ d)) ≡ length a + (length b + (length c + length d))
lengths a b c d = omega (arith, length-append a ((b ++ c) ++ d), length-append (b ++ c) d, length-append b c)

module _ (table text : List ℕ) where
  -- the first of rows that are left
  record Turn (at stop : ℕ) (ts : Forest) : Type 0 where
    tree : Tree
    rest : Forest
    is : ts ≡ more tree rest
    kept : Kept tree
    kepts : Kepts rest
    here : At table text at tree
    behind : Along table text (get_or table (width * at + 6) 0) stop rest

  turn : {at stop : ℕ} (ts : Forest) → Kepts ts → Along table text at stop ts → at < stop → Turn at stop ts
  unfolding sizes
  turn none kepts_none h l = absurd (omega (arith, h.ends))
  turn {at} {stop} (more t ts) (kepts_more x xs) h l =
      let n = next_at table text t (first_at table text h.rows) in
      record {
        tree = t;
        rest = ts;
        is = refl;
        kept = x;
        kepts = xs;
        here = record { parent = h.parent; start = h.start; rows = first_at table text h.rows; fits = omega (arith, h.ends, h.fits) };
        behind =
            record {
              parent = h.parent;
              start = h.start + length (text_of t);
              rows = subst (λ i. ForestAt table text i h.parent (h.start + length (text_of t)) ts) (sym n) (rest_at table text h.rows);
              ends = omega (arith, h.ends);
              fits = h.fits;
            };
      }

  -- what is left of the trees ts, of which some are written from x up to y
  pub record Left (x stop : ℕ) (ts : Forest) (at y : ℕ) (out out' : List ℕ) : Type 0 where
    pub trees : Forest
    pub kept : Kepts trees
    pub here : Along table text at stop trees
    pub bytes : List ℕ
    pub is : inlines ts ≡ bytes ++ inlines trees
    pub puts : Puts bytes x y out out'

  pub left_start : {from stop x : ℕ} {out : List ℕ} (h : Inlines table text from stop x) → Left x stop h.trees from x out out
  left_start h = record { trees = h.trees; kept = h.kept; here = h.here; bytes = []; is = refl; puts = puts_none }

  -- nothing is left
  pub left_end : {x stop at y : ℕ} {ts : Forest} {out out' : List ℕ} → Left x stop ts at y out out' → stop ≤ at → Puts (inlines ts) x y out out'
  unfolding inlines
  left_end {stop = stop} {at = at} h l = puts_as (sym (h.is ∙ (ap (λ w. h.bytes ++ w) (by h.trees h.here) ∙ append-nil h.bytes))) h.puts
    where
      by : (us : Forest) → Along table text at stop us → inlines us ≡ []
      by none a = refl
      by (more t us) a = absurd (omega (arith, a.ends, sizes_some t us))

  module _ {x stop at y : ℕ} {ts : Forest} {out out' : List ℕ} (room : x + length (inlines ts) < ceiling) (h : Left x stop ts at y out out') (l : at < stop) where
    one : Turn at stop h.trees
    one = turn h.trees h.kept h.here l

    all_is : inlines ts ≡ h.bytes ++ ((inline one.tree ++ between one.tree one.rest) ++ inlines one.rest)
    unfolding inlines
    all_is = h.is ∙ ap (λ us. h.bytes ++ inlines us) one.is

    sum : x + (length h.bytes + (length (inline one.tree) + (length (between one.tree one.rest) + length (inlines one.rest)))) < ceiling
    sum =
        subst
        (λ n. x + n < ceiling)
        (ap length all_is ∙ lengths h.bytes (inline one.tree) (between one.tree one.rest) (inlines one.rest))
        room

    pub turn_inline : Inline table text at y
    turn_inline = record { tree = one.tree; kept = one.kept; here = one.here; room = omega (arith, sum, h.puts.ends) }

    pub turn_word : (i : ℕ) → i ≤ 8 → width * at + i < length table
    turn_word i m = word_in table text one.here i m

    pub turn_ahead : {n : ℕ} → n ≡ get_or table (width * at + 6) 0 → (at < n) × (n ≤ stop)
    turn_ahead e =
        let k = next_at table text one.tree one.here.rows in
        (omega (arith, size_some one.tree), omega (arith, one.behind.ends))

    none_is : (us : Forest) {n : ℕ} → Along table text n stop us → is_none us ≡ eqb n stop
    unfolding sizes
    none_is none {n} a = sym (eq-eqb n stop (omega (arith, a.ends)))
    none_is (more t us) {n} a = sym (ne_eqb n stop (λ e. omega (arith, a.ends, size_some t)))

    module _ {kind next : ℕ} {last : Bool} (e : kind ≡ get_or table (width * at + 0) 0) (f : next ≡ get_or table (width * at + 6) 0) (g : last ≡ eqb next stop) where
      between_is : between one.tree one.rest ≡ separator kind last
      between_is =
          ap₂
          (λ c d. pick c (58 ∷ 32 ∷ []) (pick d [] (44 ∷ 32 ∷ [])))
          (kept_kind one.kept ∙ ap (λ i. eqb i 10) (sym (kind_word table text one.here e)))
          (none_is one.rest one.behind ∙ (ap (λ i. eqb i stop) (sym f) ∙ sym g))

      module _ {z : ℕ} {out'' : List ℕ} (p : (i : Inline table text at y) → Puts (inline i.tree) y z out' out'') where
        pub turn_room : z + length (separator kind last) ≤ ceiling
        unfolding turn_inline
        turn_room = omega (arith, sum, h.puts.ends, (p turn_inline).ends, ap length between_is)

        pub turn_again : {v : ℕ} {new : List ℕ} → Puts (separator kind last) z v out'' new → Left x stop ts next v out new
        unfolding turn_inline
        turn_again q =
            let w = inline one.tree in
            let b = separator kind last in
            let u = inlines one.rest in
            record {
              trees = one.rest;
              kept = one.kepts;
              here = subst (λ i. Along table text i stop one.rest) (sym f) one.behind;
              bytes = h.bytes ++ (w ++ b);
              is =
                  all_is ∙ (ap (λ d. h.bytes ++ ((w ++ d) ++ u)) between_is ∙ sym (append_assoc h.bytes (w ++ b) u));
              puts = puts_then h.puts (puts_then (p turn_inline) q);
            }
