-- What blocks note: what stands behind a colon, properties, members, blocks, nested bullets, items and nested content have the keys of their parts. Assumes nothing.
use mathlib.Core.Path.{◌≡◌, refl, sym, ap, subst, ◌∙◌}
use mathlib.Core.List.{List, [], ◌∷◌, ◌++◌}
use mathlib.Core.Bool.{Bool, true, false}
use Prim.Native.Nat.{ℕ, suc, ◌+◌, ◌-◌, ◌≤◌, ◌<◌, max}
use native.Mathlib.Omega.{arith}
use lib.ListN.{length, drop}
use borrow.Author.Rules.{rules}
use Rattle.language.specs.Kind.{KEY}
use Rattle.language.specs.Tree.{Tree, leaf, node, field, entry, forest, size, sizes}
use Rattle.exact.specs.Out.{Out, Reader, bind, fmap, ok, bad}
use Rattle.exact.specs.Lines.{reached}
use Rattle.exact.specs.Place.{peek}
use Rattle.exact.specs.Block.{lead}
use Rattle.rooms.specs.declared.Cursor.{Cursor}
use Rattle.rooms.specs.Contract.{Ans}
use Rattle.std.specs.declared.result.Result.TheVariants.{Err, Ok}
use Rattle.rooms.specs.Contract.{Block}
use Rattle.rooms.specs.Contract.{onward, Ready, Takes, Answers, Blocks, Span, Taken}
use Rattle.rooms.specs.Laws
use Rattle.characters.specs.Reads.{Skip}
use Rattle.characters.specs.Reads.{Ends, Skips}
use Rattle.notes.specs.Flat.{flats}
use Rattle.language.specs.Answered.{limit}
use Rattle.notes.specs.Handed.{Handed}
use Rattle.spelt.specs.Texts.{key_own}
use Rattle.spelt.specs.Reading.{Keyed}
use Rattle.notes.specs.Lie.{KeyAt}
use Rattle.notes.specs.Bare.{kept_key}
use Rattle.notes.specs.Notes.{Gives, Mapped, gives_fmap, Kept, kept_wide, kept_trees, kept_node, kept_none, Notes, one, notes_known, notes_bad, notes_same, kept_known}
use Rattle.strings.specs.Keys.{key_r}
use Rattle.inline.specs.Contract.{Passed}
use Rattle.inline.specs.Passes.{passed_in}
use Rattle.blocks.specs.Or.{merge}
use Rattle.blocks.specs.Property.{on_r}
use Rattle.blocks.specs.Rest.{rest_r}
use Rattle.blocks.specs.Array.{bullet_r}
use Rattle.blocks.specs.Openers.{opener_r, nested_line_r}
use Rattle.blocks.specs.Nested.{nested_here_r, nested_r, item_r}
use Rattle.judge.specs.declared.Start.{Start}
use Rattle.judge.specs.declared.Start.TheVariants.{Dash, Key, Line}
use Rattle.judge.specs.Members.{Member, kind_of, children, members, block_of, member_r, block_r, children_append, children_none, block_is}
use Rattle.judge.specs.Contract.{ends_r, end_r, Gap, Neither, Looked, Again, Ended, Follows, Read, Members}
use Rattle.judge.proofs.Spans.{key_leaf}
use Rattle.judge.proofs.Colons
use Rattle.judge.proofs.Containers
use Rattle.judge.proofs.Blocks
use Rattle.judge.proofs.Noting.{gives_merge, nested_line_notes}

-- ---- where a reader is refused, nothing is asked

pub refused_notes : (doc : List ℕ) (c : Cursor) (p : ℕ) (o : Out Tree) (q at row : ℕ) (R R' T T' S S' : List ℕ) → Blocks doc c p o (Err q) R R' T T' → Notes one doc at row p o S S'
unfolding Blocks
refused_notes doc c p o q at row R R' T T' S S' h = notes_bad q h

-- ---- behind a colon

module _ (doc : List ℕ) (c : Cursor) (x : Ans) (g : Gap doc c x) (p k n : ℕ) (S S' : List ℕ) where
  abbrev Behind : Type 0
  Behind = Notes one doc c.at c.row p (rest_r (on_r k n) (nested_r k (suc (suc n))) c.at (drop c.at doc)) S S'

  pub behind_on_notes : (d : Cursor) → x ≡ Ok d → Notes one doc d.at d.row p (on_r k n d.at (drop d.at doc)) S S' → Behind
  behind_on_notes d e w =
      let u = Colons.gap_one doc c x g d e in
      let z : d.at ≡ c.at + 1 = ap (λ (m : Cursor). m.at) u.next in
      notes_same (Colons.rest_on (on_r k n) (nested_r k (suc (suc n))) doc c.at u.space u.single ∙ ap (λ (i : ℕ). on_r k n i (drop i doc)) (sym z)) (omega arith) (sym (ap (λ (m : Cursor). m.row) u.next)) w

  module _ (s : Skip) (y : ℕ) (e : x ≡ Err y) (h : Skips doc c.at (ends_r false c.at (drop c.at doc)) s) where
    pub behind_bad_notes : (q : ℕ) → s ≡ Err q → Behind
    behind_bad_notes q z = refused_notes doc c p _ q c.at c.row [] [] [] [] S S' (Colons.behind_bad doc c x g p k n [] [] [] [] s y e h q z)

    pub behind_nested_notes : (a j : ℕ) (d : Cursor) → s ≡ Ok a → d ≡ record { at = a; row = c.row; text = c.text } → j ≡ n + 2
        → Notes one doc d.at d.row p (nested_r k j d.at (drop d.at doc)) S S' → Behind
    unfolding Skips
    behind_nested_notes a j d z f i w =
        let v : Ends doc c.at (ends_r false c.at (drop c.at doc)) a = rw z at h in
        let u : d.at ≡ a = ap (λ (m : Cursor). m.at) f in
        let t : j ≡ suc (suc n) = omega arith in
        notes_same
        (Colons.below_is doc c x g p k n [] [] [] [] y e ∙ (ap (λ (o : Out ℕ). bind o (λ _. nested_r k (suc (suc n)))) v.is ∙ rw (u, t) refl))
        (omega (arith, v.behind))
        (sym (ap (λ (m : Cursor). m.row) f))
        w

pub ruleset behind_noting = (behind_on_notes, behind_bad_notes, behind_nested_notes, rules)

-- ---- a property

module _ (doc : List ℕ) (c : Cursor) (p : ℕ) (a : Ans) (R R' T T' : List ℕ) (w : Answers doc c p (key_r c.at (drop c.at doc)) a R R' T T') (k n : ℕ) (S S' : List ℕ) where
  abbrev Own : Type 0
  Own = Notes (members true) doc c.at c.row p (member_r true k n c.at (drop c.at doc)) S S'

  pub property_none_notes : (q : ℕ) → a ≡ Err q → Own
  unfolding Members
  property_none_notes q e = notes_bad q (Colons.property_none doc c p a R R' T T' w k n q e)

  module _ (m : Cursor) (t : Ans) (e : a ≡ Ok m) (h : Takes doc m 58 t) where
    pub property_cut_notes : (q : ℕ) → t ≡ Err q → Own
    unfolding Members
    property_cut_notes q z = notes_bad q (Colons.property_cut doc c p a R R' T T' w m t e h k n q z)

    pub property_notes : (d : Cursor) (S₁ : List ℕ) → t ≡ Ok d → Handed doc S p c.at S₁
        → Notes one doc d.at d.row p (rest_r (on_r k n) (nested_r k (suc (suc n))) d.at (drop d.at doc)) S₁ S' → Own
    unfolding size sizes
    property_notes d S₁ z l x =
        let got = Colons.got doc c p a R R' T T' w m t e h in
        let y = Laws.take_next doc m 58 t h d z in
        let u = key_leaf c.at (drop c.at doc) got.tree m.at (drop m.at doc) got.is in
        let f : d.at ≡ m.at + 1 = ap (λ (i : Cursor). i.at) y in
        let i : d.row ≡ m.row = ap (λ (i : Cursor). i.row) y in
        let j : size got.tree ≡ 1 = ap size u.1 in
        let r : d.row ≡ c.row + sizes (forest (got.tree ∷ [])) = omega (arith, got.span.row) in
        let key : KeyAt doc c.at u.0.bytes m.at =
        record { escapes = u.0.escapes; is = got.is ∙ ap (λ (v : Tree). ok v m.at (drop m.at doc)) u.1; ahead = got.span.ahead; inside = got.span.inside } in
        let first : Kept doc c.at (flats c.row p (forest (got.tree ∷ []))) d.at S S₁ =
        rw u.1 (kept_key c.row p u.0 key (omega arith) l) in
        let z₁ : d.at ≤ d.at = omega arith in
        let x₁ : Notes one doc d.at (c.row + sizes (forest (got.tree ∷ []))) p (rest_r (on_r k n) (nested_r k (suc (suc n))) d.at (drop d.at doc)) S₁ S' =
        notes_same refl z₁ (sym r) x in
        record {
          kept = λ v b g.
              let q = gives_fmap (field got.tree) _ (subst (λ (o : Out (Member true)). Gives o v b) (Colons.property_is doc c p a R R' T T' w m t e h d z k n [] []) g) in
              rw q.is (kept_trees c.row p (got.tree ∷ []) (q.value ∷ []) first (x₁.kept q.value b q.gives));
        }

-- a key stands where one was read
pub property_key : (doc : List ℕ) (c : Cursor) (p : ℕ) (a : Ans) (R R' T T' : List ℕ) → Answers doc c p (key_r c.at (drop c.at doc)) a R R' T T' → (m : Cursor) → a ≡ Ok m → length doc ≤ limit → Keyed doc c.at
property_key doc c p a R R' T T' w m e l =
    let got = Laws.taken doc c p _ R R' T T' a m e w in
    let u = key_leaf c.at (drop c.at doc) got.tree m.at (drop m.at doc) got.is in
    let key : KeyAt doc c.at u.0.bytes m.at =
    record { escapes = u.0.escapes; is = got.is ∙ ap (λ (v : Tree). ok v m.at (drop m.at doc)) u.1; ahead = got.span.ahead; inside = got.span.inside } in
    record { short = l; key = key_own doc c.at m.at u.0.bytes key }

pub ruleset property_noting = (property_none_notes, property_cut_notes, property_notes, rules)

-- ---- a member

module _ (doc : List ℕ) (c : Cursor) (p k n : ℕ) (o : Bool) (S S' : List ℕ) where
  abbrev Member-notes : Type 0
  Member-notes = Notes (members o) doc c.at c.row p (member_r o k n c.at (drop c.at doc)) S S'

  pub member_property_notes : o ≡ true → Notes (members true) doc c.at c.row p (member_r true k n c.at (drop c.at doc)) S S' → Member-notes
  member_property_notes e w = rw e w

  module _ (a : Ans) (e : o ≡ false) (h : Passed doc c 45 32 a) where
    pub member_cut_notes : (q : ℕ) → a ≡ Err q → Member-notes
    unfolding Members
    member_cut_notes q l = notes_bad q (Containers.member_cut doc c p k n o [] [] [] [] a e h q l)

    pub member_item_notes : (m : Cursor) (j : ℕ) → a ≡ Ok m → j ≡ n + 2 → Notes one doc m.at m.row p (item_r k j m.at (drop m.at doc)) S S' → Member-notes
    member_item_notes m j l z x =
        let y = passed_in doc c m 45 32 (omega arith) (rw l at h) in
        let f : m.at ≡ c.at + 2 = ap (λ (i : Cursor). i.at) y.0 in
        let r : m.row ≡ c.row = ap (λ (i : Cursor). i.row) y.0 in
        let t : j ≡ suc (suc n) = omega arith in
        let w : Notes one doc m.at m.row p (item_r k (suc (suc n)) m.at (drop m.at doc)) S S' = rw t at x in
        let w₁ : Notes one doc c.at c.row p (item_r k (suc (suc n)) m.at (drop m.at doc)) S S' = notes_same refl (omega arith) (sym r) w in
        rw e
        (record {
          kept = λ v b g.
              let q = gives_fmap (entry c.at) _ (subst (λ (u : Out (Member false)). Gives u v b) (Containers.member_is doc c p k n o [] [] [] [] a e h m l) g) in
              rw q.is (w₁.kept q.value b q.gives);
        })

pub ruleset member_noting = (member_property_notes, member_cut_notes, member_item_notes, rules)

-- ---- a block

abbrev Within : Cursor → Cursor
Within c = record { at = c.at; row = c.row + 1; text = c.text }

-- at the loop's head: the keys of what is done are noted too
pub record Noticed (o : Bool) (k n : ℕ) (doc : List ℕ) (c : Cursor) (R₀ T₀ S₀ R T S : List ℕ) (cur : Cursor) (far cnt : ℕ) : Type 0 where
  pub loop : Blocks.Loop o k n doc c R₀ T₀ R T cur far cnt
  pub kept : Kept doc c.at (flats (c.row + 1) c.row (forest (children o loop.done))) cur.at S₀ S

module _ (o : Bool) (k n : ℕ) (doc : List ℕ) (c : Cursor) (R₀ T₀ S₀ : List ℕ) where
  pub block_start_notes : Ready doc c → Noticed o k n doc c R₀ T₀ S₀ R₀ T₀ S₀ (Within c) 0 0
  unfolding Blocks.loop_start flats
  block_start_notes d =
      let z : c.at ≤ c.at = omega arith in
      record { loop = Blocks.loop_start o k n doc c R₀ T₀ d; kept = rw (children_none o) (kept_none doc c.at c.at S₀ z) }

  module _ (R T S : List ℕ) (cur : Cursor) (far cnt : ℕ) (nl : Noticed o k n doc c R₀ T₀ S₀ R T S cur far cnt) (a : Block) (R' T' S' : List ℕ)
      (w : Members o doc cur c.row (member_r o k n cur.at (drop cur.at doc)) a R R' T T')
      (ns : Notes (members o) doc cur.at cur.row c.row (member_r o k n cur.at (drop cur.at doc)) S S') where
    pub block_refused_notes : (p q g : ℕ) → a ≡ Err q → g ≡ max far q → Notes one doc c.at c.row p (block_r o k n c.at (drop c.at doc)) S₀ S'
    block_refused_notes p q g e h =
        refused_notes doc c p _ g c.at c.row R₀ R' T₀ T' S₀ S' (Containers.block_refused o k n doc c R₀ T₀ R T cur far cnt nl.loop a R' T' w p q g e h)

    module _ (m : Cursor) (f e : ℕ) (z : a ≡ Ok (m, f, e)) where
      got : Read o doc cur c.row (member_r o k n cur.at (drop cur.at doc)) m f e R R' T T'
      got = Containers.member_read o doc cur c.row _ a R R' T T' w m f e z

      -- the keys of what is done, and of this member
      both : Kept doc c.at (flats (c.row + 1) c.row (forest (children o (nl.loop.done ++ got.member ∷ [])))) m.at S₀ S'
      both =
          let r : cur.row ≡ c.row + 1 + sizes (forest (children o nl.loop.done)) = nl.loop.written.row in
          let y : cur.at ≤ cur.at = omega arith in
          let ns₁ : Notes (members o) doc cur.at (c.row + 1 + sizes (forest (children o nl.loop.done))) c.row (member_r o k n cur.at (drop cur.at doc)) S S' = notes_same refl y (sym r) ns in
          rw (children_append o nl.loop.done (got.member ∷ []))
          (kept_trees (c.row + 1) c.row (children o nl.loop.done) (members o got.member) nl.kept (kept_known ns₁ f got.member m.at (drop m.at doc) got.is))

      module _ (x : Ans) (fl : Follows o doc m n x) where
        pub block_done_notes : (p q : ℕ) → x ≡ Err q → Notes one doc c.at c.row p (block_r o k n c.at (drop c.at doc)) S₀ S'
        unfolding Follows
        block_done_notes p q y =
            let d : Ended o doc m.at n q = rw y at fl in
            notes_known (max (max far f) q) _ m.at (drop m.at doc)
            (Blocks.block_tree o k n doc c R₀ T₀ R T R' T' cur m far cnt f e nl.loop got q d)
            (kept_node c.row p (kind_of o) c.at e (cnt + 1) (forest (children o (nl.loop.done ++ got.member ∷ []))) both)

        pub block_again_notes : (g : ℕ) (d : Cursor) → x ≡ Ok d → g ≡ max far f → Noticed o k n doc c R₀ T₀ S₀ R' T' S' d g (cnt + 1)
        unfolding Follows Blocks.loop_more
        block_again_notes g d y u =
            let q : Again o doc m.at n d.at × (d ≡ record { at = d.at; row = m.row; text = m.text }) = rw y at fl in
            let i : m.at ≤ d.at = omega (arith, q.0.there) in
            let j : c.at ≤ c.at = omega arith in
            let on : Noticed o k n doc c R₀ T₀ S₀ R' T' S' (record { at = d.at; row = m.row; text = m.text }) (max far f) (cnt + 1) =
            record { loop = Blocks.loop_more o k n doc c R₀ T₀ R T R' T' cur m far cnt f e nl.loop got d.at q.0; kept = kept_wide j i both } in
            rw u (subst (λ (v : Cursor). Noticed o k n doc c R₀ T₀ S₀ R' T' S' v (max far f) (cnt + 1)) (sym q.1) on)

pub ruleset block_noting = (block_start_notes, block_refused_notes, block_done_notes, block_again_notes, rules)

-- ---- a nested bullet

pub bullet_notes : (k n : ℕ) (doc : List ℕ) (c : Cursor) (p : ℕ) (S S' : List ℕ)
    → Notes (members false) doc c.at (c.row + 1) c.row (member_r false k n c.at (drop c.at doc)) S S'
    → Notes one doc c.at c.row p (bullet_r (item_r k (suc (suc n))) c.at (drop c.at doc)) S S'
bullet_notes k n doc c p S S' x =
    record {
      kept = λ v a g.
          let q = gives_fmap (λ (i : Member false). block_of false (i ∷ [])) (member_r false k n c.at (drop c.at doc)) (subst (λ (u : Out Tree). Gives u v a) (Blocks.bullet_is k n doc c p [] [] [] []) g) in
          rw (q.is, block_is false q.value []) (kept_node c.row p _ _ _ _ (forest (members false q.value)) (x.kept q.value a q.gives));
    }

-- ---- by a look

pub merge_notes : (doc : List ℕ) (at row p q : ℕ) (o o' : Out Tree) (S S' : List ℕ) → o ≡ merge o' (bad q) → Notes one doc at row p o' S S' → Notes one doc at row p o S S'
merge_notes doc at row p q o o' S S' e x = record { kept = λ v a g. x.kept v a (gives_merge o' q (subst (λ (u : Out Tree). Gives u v a) e g)) }

module _ (doc : List ℕ) (c : Cursor) (p n : ℕ) (S S' : List ℕ) where
  abbrev Here : Reader Tree → Type 0
  Here r = Notes one doc c.at c.row p (r c.at (drop c.at doc)) S S'

  pub item_none_notes : (k : ℕ) → k ≡ 0 → Here (opener_r (end_r false) k n) → Here (item_r k n)
  item_none_notes k e x = rw (Containers.item_none_is n k c.at (drop c.at doc) e) x

  module _ (k : ℕ) (z : k ≡ 0 → ⊥) (s : Start) (h : Looked doc c.at s) where
    pub item_dash_notes : s ≡ Dash → Here (bullet_r (item_r (k - 1) (suc (suc n)))) → Here (item_r k n)
    item_dash_notes e x = rw (Containers.item_dash_is n k c.at (drop c.at doc) z (Containers.looked_dash doc c.at s h e)) x

    pub item_key_notes : s ≡ Key → Here (block_r true (k - 1) n) → Here (item_r k n)
    item_key_notes e x = rw (Containers.item_key_is n k c.at (drop c.at doc) z (Containers.looked_key doc c.at s h e)) x

    pub item_other_notes : (q : ℕ) → s ≡ Line q → Here (opener_r (end_r false) k n) → Here (item_r k n)
    item_other_notes q e x =
        merge_notes doc c.at c.row p q _ _ S S' (Containers.item_line_is n k c.at (drop c.at doc) z q (Containers.looked_line doc c.at s q h e)) x

pub ruleset item_noting = (bullet_notes, item_none_notes, item_dash_notes, item_key_notes, item_other_notes, rules)

-- ---- nested content

module _ (doc : List ℕ) (c : Cursor) (p n i : ℕ) (S S' : List ℕ) (h : i ≡ lead n (drop c.at doc)) where
  pub nested_cut_notes : (k : ℕ) (m : Cursor) → m ≡ record { at = c.at + i; row = c.row; text = c.text } → i < n
      → Notes one doc c.at c.row p (nested_r k n c.at (drop c.at doc)) S S'
  nested_cut_notes k m f l = refused_notes doc c p _ m.at c.at c.row [] [] [] [] S S' (Containers.nested_cut doc c p n i [] [] [] [] h k m f l)

  module _ (m : Cursor) (l : n ≤ i) (u : i ≤ n) (f : m ≡ record { at = c.at + i; row = c.row; text = c.text }) (k : ℕ) where
    abbrev In : Type 0
    In = Notes one doc c.at c.row p (nested_r k n c.at (drop c.at doc)) S S'

    from : (o : Out Tree) → nested_here_r k n m.at (drop m.at doc) ≡ o → Notes one doc m.at m.row p o S S' → In
    from o e x =
        let a : m.at ≡ c.at + i = ap (λ (v : Cursor). v.at) f in
        notes_same (Containers.nested_at doc c p n i [] [] [] [] h m l u f k ∙ e) (omega arith) (sym (ap (λ (v : Cursor). v.row) f)) x

    -- an open block string or joined strings have no keys
    pub nested_none_notes : k ≡ 0 → S' ≡ S → In
    unfolding nested_here_r
    nested_none_notes e q = from (nested_line_r n m.at (drop m.at doc)) (rw e refl) (rw q (nested_line_notes doc m.at m.row p n S))

    module _ (z : k ≡ 0 → ⊥) (s : Start) (g : Looked doc m.at s) where
      pub nested_dash_notes : s ≡ Dash → Notes one doc m.at m.row p (block_r false (k - 1) n m.at (drop m.at doc)) S S' → In
      nested_dash_notes e x = from _ (Containers.dash_is doc c p n i [] [] [] [] h m l u f k (Err 0) z s g e) x

      pub nested_key_notes : s ≡ Key → Notes one doc m.at m.row p (block_r true (k - 1) n m.at (drop m.at doc)) S S' → In
      nested_key_notes e x = from _ (Containers.key_is doc c p n i [] [] [] [] h m l u f k (Err 0) z s g e) x

      pub nested_other_notes : (q : ℕ) → s ≡ Line q → S' ≡ S → In
      nested_other_notes q e y =
          from _ (Containers.line_is doc c p n i [] [] [] [] h m l u f k (Err 0) z s g q e)
          (merge_notes doc m.at m.row p q _ (nested_line_r n m.at (drop m.at doc)) S S' refl (rw y (nested_line_notes doc m.at m.row p n S)))

pub ruleset nested_noting = (nested_cut_notes, nested_none_notes, nested_dash_notes, nested_key_notes, nested_other_notes, rules)
