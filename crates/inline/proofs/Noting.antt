-- The keys that inline values note: none of a scalar, that of a pair before those of its value, and those of a container's members one after another.
use mathlib.Core.Path.{◌≡◌, refl, sym, ap, subst, ◌∙◌}
use mathlib.Core.List.{List, [], ◌∷◌, ◌++◌}
use mathlib.Core.Bool.{Bool, true, false}
use Prim.Native.Nat.{ℕ, ◌+◌, ◌-◌, ◌≤◌, ◌<◌}
use native.Mathlib.Omega.{arith}
use lib.ListN.{drop}
use borrow.Author.Rules.{rules}
use Rattle.language.specs.Tree.{Tree, Field, field, leaf, forest, sizes, count}
use Rattle.language.specs.Kind.{KEY}
use Rattle.exact.specs.Class.{is}
use Rattle.exact.specs.Out.{Out, Reader, bind}
use Rattle.exact.specs.Lang.{ret_r}
use Rattle.exact.specs.Comb.{seq_r}
use Rattle.exact.specs.Ll.{word_r, word_ll}
use Rattle.exact.specs.Answers.{map_fmap}
use Rattle.exact.specs.Place.{peek}
use Rattle.rooms.specs.declared.Cursor.{Cursor}
use Rattle.rooms.specs.Contract.{Ans}
use Rattle.std.specs.declared.result.Result.TheVariants.{Err, Ok}
use Rattle.rooms.specs.Contract.{Far}
use Rattle.rooms.specs.Contract.{Takes, Ready, Taken, Answers, Reaches}
use Rattle.rooms.specs.Laws
use Rattle.numbers.specs.Plain.{plain_r}
use Rattle.notes.specs.Flat.{flats}
use Rattle.notes.specs.Handed.{Handed}
use Rattle.notes.specs.Lie.{KeyAt}
use Rattle.spelt.specs.Texts.{key_own}
use Rattle.spelt.specs.Reading.{Keyed as Stood}
use Rattle.notes.specs.Notes.{Gives, gives_ok, gives_fmap, gives_behind, Kept, Notes, one, kept_wide, kept_trees, kept_node, notes_known, notes_bad}
use Rattle.notes.specs.Bare.{Always, Bare, notes_bare, keyed, kept_key}
use Rattle.inline.specs.Contract.{After}
use Rattle.inline.specs.declared.Sep.TheVariants.{Last}
use Rattle.inline.specs.Lists.{inline_pair_r}
use Rattle.inline.specs.Values.{marks, scalar_r, value_r}
use Rattle.inline.specs.Brackets.{opens, closes, kind_of, members, children, member_r, enclosed, bracket_r, label_r, pair_label}
use Rattle.inline.specs.Contract.{Opened, Turned}
use Rattle.inline.proofs.Bared.{plain_bare, scalar_bare}
use Rattle.inline.proofs.Listing.{Loop, none_kept, kept_more}
use Rattle.inline.proofs.Containers.{bracket_none, bracket_empty, inner_is, opened_at, ends_of, bad_is, last_is}
use Rattle.inline.proofs.Choices.{chosen_deep, chosen_scalar, chosen_digits, chosen_array, chosen_object, value_alike, line_reads, not_plain}

-- ---- a scalar

module _ (doc : List ℕ) (c : Cursor) (p row parent : ℕ) (o : Out Tree) (R R' T T' S : List ℕ) (b : Always Bare o) where
  taken_noted : (n : Cursor) (far : ℕ) → Taken doc c p o n far R R' T T' → Notes one doc c.at row parent o S S
  taken_noted n far t = notes_bare b far t.tree n.at (drop n.at doc) t.is (omega (arith, t.span.ahead))

  bare_noted : (a : Ans) → Answers doc c p o a R R' T T' → Notes one doc c.at row parent o S S
  unfolding Answers
  bare_noted (Ok n) w = taken_noted n 0 w
  bare_noted (Err q) w = notes_bad q w

  bare_reached : (a : Far) → Reaches doc c p o a R R' T T' → Notes one doc c.at row parent o S S
  unfolding Reaches
  bare_reached (Ok (n, far)) w = taken_noted n far w
  bare_reached (Err q) w = notes_bad q w

-- ---- a value, by the byte b at the cursor

module _ (doc : List ℕ) (c : Cursor) (row parent : ℕ) (S S' : List ℕ) where
  abbrev Noted : Out Tree → Type 0
  Noted o = Notes one doc c.at row parent o S S'

  module _ (b : ℕ) (h : b ≡ peek doc c.at) (k : ℕ) where
    pub array_noted : b ≡ 91 → (k ≡ 0 → ⊥) → Noted (bracket_r false (value_r false (k - 1)) c.at (drop c.at doc)) → Noted (value_r false k c.at (drop c.at doc))
    array_noted = chosen_array Noted doc c.at b h k

    pub object_noted : b ≡ 123 → (k ≡ 0 → ⊥) → Noted (bracket_r true (value_r false (k - 1)) c.at (drop c.at doc)) → Noted (value_r false k c.at (drop c.at doc))
    object_noted = chosen_object Noted doc c.at b h k

module _ (doc : List ℕ) (c : Cursor) (p row parent k : ℕ) (a : Ans) (R R' T T' S : List ℕ) where
  abbrev Alike : Out Tree → Type 0
  Alike o = Notes one doc c.at row parent o S S

  pub deep_noted : k ≡ 0 → Answers doc c p (scalar_r false c.at (drop c.at doc)) a R R' T T' → Alike (value_r false k c.at (drop c.at doc))
  deep_noted z w = chosen_deep Alike doc c.at k z (bare_noted doc c p row parent _ R R' T T' S (scalar_bare false c.at (drop c.at doc)) a w)

  module _ (b : ℕ) (h : b ≡ peek doc c.at) where
    pub scalar_noted : (b ≡ 91 → ⊥) → (b ≡ 123 → ⊥) → Answers doc c p (scalar_r false c.at (drop c.at doc)) a R R' T T' → Alike (value_r false k c.at (drop c.at doc))
    scalar_noted l m w = chosen_scalar Alike doc c.at b h k l m (bare_noted doc c p row parent _ R R' T T' S (scalar_bare false c.at (drop c.at doc)) a w)

    pub digits_noted : 48 ≤ b → b < 58 → Answers doc c p (plain_r false c.at (drop c.at doc)) a R R' T T' → Alike (value_r false k c.at (drop c.at doc))
    digits_noted l m w = chosen_digits Alike doc c.at b h k l m (bare_noted doc c p row parent _ R R' T T' S (plain_bare false c.at (drop c.at doc)) a w)

-- ---- a value on a line

module _ (doc : List ℕ) (c : Cursor) (row parent k b : ℕ) (y : Bool) (h : b ≡ peek doc c.at) (j : y ≡ is marks b) where
  seen_so : {z : Bool} → y ≡ z → is marks (peek doc c.at) ≡ z
  seen_so e = ap (is marks) (sym h) ∙ (sym j ∙ e)

  pub marked_noted : (S S' : List ℕ) → y ≡ true → Notes one doc c.at row parent (value_r false k c.at (drop c.at doc)) S S' → Notes one doc c.at row parent (value_r true k c.at (drop c.at doc)) S S'
  marked_noted S S' e x = rw (value_alike doc c.at k (not_plain (peek doc c.at) (seen_so e))) x

  pub line_noted : (p : ℕ) (R R' T T' S : List ℕ) (f : Far) → y ≡ false → Reaches doc c p (plain_r true c.at (drop c.at doc)) f R R' T T'
      → Notes one doc c.at row parent (value_r true k c.at (drop c.at doc)) S S
  line_noted p R R' T T' S f e x = rw (line_reads doc c.at k (seen_so e)) (bare_reached doc c p row parent _ R R' T T' S (plain_bare true c.at (drop c.at doc)) f x)

-- ---- a container

module _ (o : Bool) (r : Reader Tree) (doc : List ℕ) (c : Cursor) (p : ℕ) (S : List ℕ) (b : Ans) (op : Opened doc c (opens o) b) where
  pub shut_noted : (q : ℕ) → b ≡ Err q → Notes one doc c.at c.row p (bracket_r o r c.at (drop c.at doc)) S S
  unfolding Opened
  shut_noted q e = let h : (q ≡ c.at) × (peek doc c.at ≡ opens o → ⊥) = rw e at op in notes_bad c.at (bracket_none o r doc c.at h.1)

  pub none_noted : (d : Cursor) (k : Ans) (n : Cursor) → b ≡ Ok d → Takes doc d (closes o) k → k ≡ Ok n → Notes one doc c.at c.row p (bracket_r o r c.at (drop c.at doc)) S S
  none_noted d k n e t z =
      let i = inner_is doc c d (opens o) b op e in
      let h : peek doc c.at ≡ opens o = sym (opened_at doc c d (opens o) b op e) in
      let g : closes o ≡ peek doc (c.at + 1) = Laws.take_byte doc d (closes o) k t n z ∙ ap (λ (m : Cursor). peek doc m.at) i in
      notes_known 0 (enclosed o c.at (c.at + 1 + 1) []) (c.at + 1 + 1) (drop (c.at + 1 + 1) doc) (bracket_empty o r doc c.at (closes o) h g refl)
      (kept_node c.row p (kind_of o) c.at (c.at + 1 + 1) 0 (forest (children o [])) (none_kept o doc c.at (c.at + 1 + 1) (c.row + 1) c.row S (omega arith)))

module _ (o : Bool) (r : Reader Tree) (doc : List ℕ) (c : Cursor) (R0 T0 S0 R T S R' T' : List ℕ) (cur : Cursor) (cnt : ℕ)
    (l : Loop o r doc c R0 T0 S0 R T S cur cnt) (a : After) (e : Turned o (closes o) doc cur c.row (member_r o r) a R R' T T') (p : ℕ) (S' : List ℕ) where
  pub bad_noted : (q : ℕ) → a ≡ Err q → Notes one doc c.at c.row p (bracket_r o r c.at (drop c.at doc)) S0 S'
  bad_noted q k = notes_bad q (bad_is o r doc c R0 T0 S0 R T S R' T' cur cnt l a e q k)

  pub last_noted : (n : Cursor) → a ≡ Ok (Last n) → Notes (members o) doc cur.at cur.row c.row (member_r o r cur.at (drop cur.at doc)) S S'
      → Notes one doc c.at c.row p (bracket_r o r c.at (drop c.at doc)) S0 S'
  last_noted n k x =
      let z = ends_of o r doc c R0 T0 S0 R T S R' T' cur cnt l a e n k in
      let ms = l.done ++ z.read.member ∷ [] in
      let u : c.at ≤ c.at + 1 = omega arith in
      let v : n.at ≤ n.at = omega arith in
      notes_known 0 (enclosed o c.at n.at ms) n.at (drop n.at doc) (last_is o r doc c R0 T0 S0 R T S R' T' cur cnt l a e n k)
      (kept_node c.row p (kind_of o) c.at n.at (count ms) (forest (children o ms))
      (kept_wide u v (kept_more o r doc c R0 T0 S0 R T S R' T' cur n cnt l S' z.read (omega (arith, z.to)) x)))

-- ---- an element, and a pair

pub element_noted : (doc : List ℕ) (at row parent : ℕ) (o : Out Tree) (S S' : List ℕ) → Notes one doc at row parent o S S' → Notes (members false) doc at row parent o S S'
element_noted doc at row parent o S S' x = record { kept = x.kept }

-- the key before a colon
colon_gives : (m : ℕ) (s : List ℕ) (k : Tree) {v : Tree} {a : ℕ} → Gives (bind (word_r (58 ∷ 32 ∷ []) m s) (λ _. ret_r k)) v a → (v ≡ k) × (m ≤ a)
colon_gives m s k x = gives_behind (word_r (58 ∷ 32 ∷ []) m s) ((word_ll (58 ∷ 32 ∷ [])).exact.moves.tame m s) k x

module _ (doc : List ℕ) (c : Cursor) (p : ℕ) (r : Reader Tree) (a : Ans) (R R' T T' : List ℕ) (w : Answers doc c p (label_r c.at (drop c.at doc)) a R R' T T') (S S' : List ℕ) where
  pub label_bad : (q : ℕ) → a ≡ Err q → Notes (members true) doc c.at c.row p (inline_pair_r r c.at (drop c.at doc)) S S'
  label_bad q e =
      notes_bad q
      (pair_label r c.at (drop c.at doc) ∙ ap (λ (o : Out Tree). bind o (λ k. seq_r r λ v. ret_r (field k v))) (Laws.refusal doc c p _ R R' T T' a q e w))

  module _ (m : Cursor) (e : a ≡ Ok m) where
    label : Taken doc c p (label_r c.at (drop c.at doc)) m 0 R R' T T'
    label = Laws.taken doc c p _ R R' T T' a m e w

    label_kept : Handed doc S p c.at S' → Kept doc c.at (flats c.row p (forest (label.tree ∷ []))) m.at S S'
    unfolding label_r
    label_kept h =
        let g = keyed doc c.at (λ k. seq_r (word_r (58 ∷ 32 ∷ [])) λ _. ret_r k) (subst (λ (u : Out Tree). Gives u label.tree m.at) (sym label.is) gives_ok) in
        let b = colon_gives g.ends (drop g.ends doc) (leaf KEY c.at g.ends g.text) g.behind in
        rw b.0 (kept_key c.row p g.text (record { escapes = g.text.escapes; is = g.is; ahead = g.ahead; inside = omega (arith, b.1, label.span.inside) }) b.1 h)

    pub pair_noted : (S'' : List ℕ) → Handed doc S p c.at S' → Notes (members false) doc m.at m.row p (r m.at (drop m.at doc)) S' S''
        → Notes (members true) doc c.at c.row p (inline_pair_r r c.at (drop c.at doc)) S S''
    unfolding sizes
    pair_noted S'' h x =
        let behind : inline_pair_r r c.at (drop c.at doc) ≡ bind (r m.at (drop m.at doc)) (λ v. ret_r (field label.tree v)) =
        pair_label r c.at (drop c.at doc) ∙ ap (λ (o : Out Tree). bind o (λ k. seq_r r λ v. ret_r (field k v))) label.is in
        let row : m.row ≡ c.row + sizes (forest (label.tree ∷ [])) = omega (arith, label.span.row) in
        record {
          kept = λ v b g.
              let f = gives_fmap (field label.tree) (r m.at (drop m.at doc))
              (subst (λ (u : Out Field). Gives u v b) (behind ∙ map_fmap (field label.tree) (r m.at (drop m.at doc))) g) in
              let k = x.kept f.value b f.gives in
              rw f.is (kept_trees c.row p (label.tree ∷ []) (f.value ∷ []) (label_kept h) (subst (λ (q : ℕ). Kept doc m.at (flats q p (forest (f.value ∷ []))) b S' S'') row k));
        }

-- a key stands where one was read
module _ (doc : List ℕ) (c : Cursor) (p : ℕ) (a : Ans) (R R' T T' : List ℕ) (w : Answers doc c p (label_r c.at (drop c.at doc)) a R R' T T') (m : Cursor) (e : a ≡ Ok m) where
  pub label_key : Ready doc c → Stood doc c.at
  unfolding label_r
  label_key d =
      let l = Laws.taken doc c p _ R R' T T' a m e w in
      let g = keyed doc c.at (λ k. seq_r (word_r (58 ∷ 32 ∷ [])) λ _. ret_r k) (subst (λ (u : Out Tree). Gives u l.tree m.at) (sym l.is) gives_ok) in
      let b = colon_gives g.ends (drop g.ends doc) (leaf KEY c.at g.ends g.text) g.behind in
      let key : KeyAt doc c.at g.text.bytes g.ends = record { escapes = g.text.escapes; is = g.is; ahead = g.ahead; inside = omega (arith, b.1, l.span.inside) } in
      record { short = d.small; key = key_own doc c.at g.ends g.text.bytes key }

pub ruleset noting = (deep_noted, scalar_noted, digits_noted, array_noted, object_noted, shut_noted, none_noted, bad_noted, last_noted, element_noted, label_bad, pair_noted, label_key, rules)

pub ruleset noting_line = (marked_noted, line_noted, rules)
