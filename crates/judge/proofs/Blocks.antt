-- The loop over the members of a block: its invariant, its start, a turn, and its ways out; and the block of one item. Assumes nothing.
use mathlib.Core.Path.{◌≡◌, refl, sym, ap, ◌∙◌}
use mathlib.Core.List.{List, [], ◌∷◌, ◌++◌}
use mathlib.Core.Bool.{Bool, false}
use Prim.Native.Nat.{ℕ, suc, ◌+◌, ◌-◌, ◌*◌, ◌≤◌, ◌<◌, max}
use native.Mathlib.Omega.{arith}
use lib.ListN.{length, drop, length-drop}
use lib.Seq.{sets}
use Rattle.language.specs.Tree.{unlined, Tree, node, forest, count, end_of, width, size, sizes, text_of, rows_of, rowss, row_list, escapes_of}
use Rattle.exact.specs.Out.{Out, fmap, soft, bad}
use Rattle.exact.specs.Answers.{map_fmap, fmap_none, fmap_join}
use Rattle.exact.specs.Class.{is}
use Rattle.exact.specs.Block.{lead, ind_fits}
use Rattle.exact.specs.Lines.{reached, raised, soft_reached}
use Rattle.rooms.specs.Told.{spot}
use Rattle.rooms.specs.declared.Cursor.{Cursor}
use Rattle.std.specs.declared.result.Result.TheVariants.{Err, Ok}
use Rattle.rooms.specs.Contract.{Ready, Span, Filled, Blocks}
use Rattle.rooms.specs.Stores.{row_behind}
use Rattle.rooms.specs.Laws
use Rattle.inline.specs.Written.{Written, written_none, written_append, sizes_append}
use Rattle.inline.specs.Brackets.{count_then}
use Rattle.blocks.specs.Lines.{lines_r}
use Rattle.blocks.specs.Array.{dashed_r, bullet_r}
use Rattle.blocks.specs.Nested.{item_r}
use Rattle.judge.specs.Members.{Member, kind_of, firsts, begin, children, block_of, member_r, block_r, children_none, children_append, end_last, block_is}
use Rattle.judge.specs.Contract.{Stands, Again, Ended, Read}
use Rattle.judge.proofs.Outs.{raised_bad, raised_soft, raised_raised, raised_fmap, fmap_reached}
use Rattle.judge.proofs.Turns.{lines_n, lines_more, lines_last, lines_bad, enough_lines}

-- where a container at c has its first member, whose row comes next
abbrev pub within : Cursor → Cursor
within c = record { at = c.at; row = c.row + 1; text = c.text }

-- ---- a container at c that ends at e, once its own row is stored

module _ (doc : List ℕ) (c n : Cursor) (p kind e cnt : ℕ) (ts : List Tree) (R R' R'' T T' : List ℕ) (spare : c.at + sizes (forest ts) < n.at)
    (w : Written doc (within c) n c.row ts R R' T T') where
  whole_span : Span doc c n (node kind c.at e cnt (forest ts))
  unfolding size text_of escapes_of
  whole_span =
      record {
        ahead = omega arith;
        inside = w.inside;
        row = omega (arith, w.row);
        text = w.text;
        escapes = w.escapes;
        few_rows = omega arith;
        few_text = w.few_text;
        few_escapes = w.few_escapes;
      }

  whole_filled : R'' ≡ sets R' (width * c.row) (row_list unlined kind c.at e 0 cnt p n.row) → Filled c p (node kind c.at e cnt (forest ts)) R R'' T T'
  unfolding rows_of text_of
  whole_filled h =
      let i : n.row ≡ c.row + 1 + sizes (forest ts) = omega (arith, w.row) in
      record {
        table =
            rw (h, w.table, i)
            (row_behind R (width * c.row) (width * (c.row + 1)) (row_list unlined kind c.at e 0 cnt p (c.row + 1 + sizes (forest ts))) (rowss unlined (c.row + 1) c.row (spot c.text) (forest ts)) (omega arith));
        room = w.room;
      }

-- where the first member begins
abbrev pub start : (o : Bool) → List (Member o) → ℕ
start o [] = 0
start o (m ∷ ms) = begin o m

pub start_then : (o : Bool) (ms : List (Member o)) (m u : Member o) → start o ((ms ++ m ∷ []) ++ u ∷ []) ≡ start o (ms ++ m ∷ [])
start_then o [] m u = refl
start_then o (x ∷ ms) m u = refl

block_then : (o : Bool) (ms : List (Member o)) (m : Member o)
    → block_of o (ms ++ m ∷ []) ≡ node (kind_of o) (start o (ms ++ m ∷ [])) (end_of 0 (children o (m ∷ []))) (count ms + 1) (forest (children o (ms ++ m ∷ [])))
block_then o ms m = go ms refl
  where
    go : (l : List (Member o)) → l ≡ ms → block_of o (l ++ m ∷ []) ≡ node (kind_of o) (start o (l ++ m ∷ [])) (end_of 0 (children o (m ∷ []))) (count l + 1) (forest (children o (l ++ m ∷ [])))
    go [] h = block_is o m []
    go (x ∷ l) h =
        block_is o x (l ++ m ∷ [])
        ∙ (ap (λ (e : ℕ). node (kind_of o) (begin o x) e (count (x ∷ l ++ m ∷ [])) (forest (children o (x ∷ l ++ m ∷ [])))) (end_last o (x ∷ l) m)
        ∙ ap (λ (k : ℕ). node (kind_of o) (begin o x) (end_of 0 (children o (m ∷ []))) k (forest (children o (x ∷ l ++ m ∷ [])))) (count_then (x ∷ l) m))

-- ---- the loop

-- At the loop's head: `done` has been read and written, something longer begins up to `far`, and what is left is read from the cursor, with a bound that is enough.
pub record Loop (o : Bool) (k n : ℕ) (doc : List ℕ) (c : Cursor) (R₀ T₀ R T : List ℕ) (cur : Cursor) (far cnt : ℕ) : Type 0 where
  pub from : Ready doc c
  pub bound : ℕ
  pub done : List (Member o)
  pub rest : lines_r (firsts o) n (member_r o k n) c.at (drop c.at doc)
      ≡ raised far (fmap (done ++◌) (lines_n (firsts o) n (member_r o k n) bound cur.at (drop cur.at doc)))
  pub enough : (f : ℕ) (m : Member o) (a : ℕ) → member_r o k n cur.at (drop cur.at doc) ≡ reached f m a (drop a doc) → cur.at < a → length doc ≤ bound + a
  pub counted : cnt ≡ count done
  pub opened : (m : Member o) → begin o m ≡ cur.at → start o (done ++ m ∷ []) ≡ c.at
  pub written : Written doc (within c) cur c.row (children o done) R₀ R T₀ T
  pub ready : Stands doc cur
  pub few : cnt ≤ cur.at

module _ (o : Bool) (k n : ℕ) (doc : List ℕ) (c : Cursor) (R₀ T₀ : List ℕ) where
  unfoldable pub loop_start : Ready doc c → Loop o k n doc c R₀ T₀ R₀ T₀ (within c) 0 0
  loop_start d =
      let b = enough_lines (firsts o) n (member_r o k n) doc c.at in
      record {
        from = d;
        bound = b.bound;
        done = [];
        rest = b.same ∙ sym (fmap_none (lines_n (firsts o) n (member_r o k n) b.bound c.at (drop c.at doc)));
        enough = λ f m a e h. b.enough f m a e;
        counted = refl;
        opened = λ m e. e;
        written = rw (children_none o) (written_none doc (within c) (within c) c.row R₀ T₀ (omega arith) d.inside refl refl);
        ready = record { small = d.small; inside = d.inside; few_rows = omega (arith, d.few_rows); few_text = d.few_text; few_escapes = d.few_escapes };
        few = omega arith;
      }

  module _ (R T R' T' : List ℕ) (cur m : Cursor) (far cnt f e : ℕ) (l : Loop o k n doc c R₀ T₀ R T cur far cnt)
      (g : Read o doc cur c.row (member_r o k n cur.at (drop cur.at doc)) m f e R R' T T') where
    pub written_all : Written doc (within c) m c.row (children o (l.done ++ g.member ∷ [])) R₀ R' T₀ T'
    written_all =
        rw (children_append o l.done (g.member ∷ []))
        (written_append doc (within c) cur m c.row (children o l.done) (children o (g.member ∷ [])) R₀ R R' T₀ T T' l.written g.written)

    pub turned : (out : Out (List (Member o)))
        → raised far (fmap (l.done ++◌) (raised f (fmap (g.member ∷◌) out))) ≡ raised (max far f) (fmap ((l.done ++ g.member ∷ []) ++◌) out)
    turned out =
        ap (raised far) (sym (raised_fmap (l.done ++◌) f (fmap (g.member ∷◌) out)) ∙ ap (raised f) (fmap_join l.done (g.member ∷ []) out))
        ∙ raised_raised far f (fmap ((l.done ++ g.member ∷ []) ++◌) out)

    pub again_inside : {a : ℕ} → Again o doc m.at n a → a ≤ length doc
    again_inside q = let h = ind_fits (is (firsts o)) n (drop m.at doc) q.begins in let d = length-drop m.at doc in omega (arith, q.there)

    unfoldable pub loop_more : (a : ℕ) → Again o doc m.at n a
        → Loop o k n doc c R₀ T₀ R' T' (record { at = a; row = m.row; text = m.text }) (max far f) (cnt + 1)
    loop_more a q =
        let w = written_all in
        let s = g.written in
        let r = g.spare in
        let z = l.few in
        let h = lines_more (firsts o) n (member_r o k n) doc cur.at f g.member m.at g.is l.bound (l.enough f g.member m.at g.is (omega arith)) q.begins q.full in
        let i = q.there in
        let y = count_then l.done g.member in
        let x = again_inside q in
        record {
          from = l.from;
          bound = h.0;
          done = l.done ++ g.member ∷ [];
          rest = rw i (l.rest ∙ (ap (λ (u : Out (List (Member o))). raised far (fmap (l.done ++◌) u)) h.1 ∙ turned (lines_n (firsts o) n (member_r o k n) h.0 (m.at + n) (drop (m.at + n) doc))));
          enough = λ f₁ v b e₁ l₁. omega (arith, h.2);
          counted = omega (arith, l.counted);
          opened = λ u e₁. start_then o l.done g.member u ∙ l.opened g.member g.begins;
          written =
              record {
                onward = omega (arith, w.onward);
                inside = x;
                row = w.row;
                text = w.text;
                escapes = w.escapes;
                few_rows = omega (arith, w.few_rows);
                few_text = omega (arith, w.few_text);
                few_escapes = omega (arith, w.few_escapes);
                table = w.table;
                room = w.room;
              };
          ready =
              record {
                small = l.from.small;
                inside = x;
                few_rows = omega (arith, s.row, s.few_rows, l.ready.few_rows);
                few_text = omega (arith, s.text, s.few_text, l.ready.few_text);
                few_escapes = omega (arith, s.escapes, s.few_escapes, l.ready.few_escapes);
              };
          few = omega arith;
        }

    pub loop_falls : (a : ℕ) → Again o doc m.at n a → length doc - a < length doc - cur.at
    loop_falls a q = let x = again_inside q in let r = g.spare in omega (arith, q.there)

    -- no further member: the block ends
    last_is : (p : ℕ) → Ended o doc m.at n p
        → lines_r (firsts o) n (member_r o k n) c.at (drop c.at doc) ≡ soft (max (max far f) p) (l.done ++ g.member ∷ []) m.at (drop m.at doc)
    last_is p q =
        let i : max far (max f (m.at + lead n (drop m.at doc))) ≡ max (max far f) p = omega (arith, q.upto) in
        l.rest
        ∙ (ap
        (λ (u : Out (List (Member o))). raised far (fmap (l.done ++◌) u))
        (lines_last (firsts o) n (member_r o k n) doc cur.at f g.member m.at g.is l.bound q.none)
        ∙ (raised_soft far _ (l.done ++ g.member ∷ []) m.at (drop m.at doc)
        ∙ ap (λ (x : ℕ). soft x (l.done ++ g.member ∷ []) m.at (drop m.at doc)) i))

    tree_is : block_of o (l.done ++ g.member ∷ []) ≡ node (kind_of o) c.at e (cnt + 1) (forest (children o (l.done ++ g.member ∷ [])))
    tree_is =
        block_then o l.done g.member
        ∙ rw (l.opened g.member g.begins, g.ends, l.counted) refl

    spare_all : c.at + sizes (forest (children o (l.done ++ g.member ∷ []))) < m.at
    spare_all =
        let a = sizes_append (children o l.done) (children o (g.member ∷ [])) in
        let r = g.spare in
        let w = l.written.few_rows in
        rw (children_append o l.done (g.member ∷ [])) (omega arith)

    -- the block's tree
    pub block_tree : (p : ℕ) → Ended o doc m.at n p
        → block_r o k n c.at (drop c.at doc) ≡ reached (max (max far f) p) (node (kind_of o) c.at e (cnt + 1) (forest (children o (l.done ++ g.member ∷ [])))) m.at (drop m.at doc)
    unfolding block_r
    block_tree p q =
        let r = g.spare in
        map_fmap (block_of o) (lines_r (firsts o) n (member_r o k n) c.at (drop c.at doc))
        ∙ (ap (fmap (block_of o)) (last_is p q)
        ∙ (ap (λ (t : Tree). soft (max (max far f) p) t m.at (drop m.at doc)) tree_is
        ∙ (soft_reached (max (max far f) p) (node (kind_of o) c.at e (cnt + 1) (forest (children o (l.done ++ g.member ∷ [])))) m.at (drop m.at doc) (omega (arith, q.upto)))))

    pub block_last : (parent p : ℕ) (R'' : List ℕ) → Ended o doc m.at n p
        → R'' ≡ sets R' (width * c.row) (row_list unlined (kind_of o) c.at e 0 (cnt + 1) parent m.row)
        → Blocks doc c parent (block_r o k n c.at (drop c.at doc)) (Ok (m, max (max far f) p, e)) R₀ R'' T₀ T'
    block_last parent p R'' q h =
        let ts = children o (l.done ++ g.member ∷ []) in
        Laws.a_block doc c parent _ R₀ R'' T₀ T' m (max (max far f) p) e
        (record {
          taken =
              record {
                tree = node (kind_of o) c.at e (cnt + 1) (forest ts);
                is = block_tree p q;
                span = whole_span doc c m parent (kind_of o) e (cnt + 1) ts R₀ R' R'' T₀ T' spare_all written_all;
                filled = whole_filled doc c m parent (kind_of o) e (cnt + 1) ts R₀ R' R'' T₀ T' spare_all written_all h;
              };
          ends = refl;
          inner = g.inner;
        })

  -- a member is refused
  pub block_bad : (R T R' T' : List ℕ) (cur : Cursor) (far cnt parent p : ℕ) → Loop o k n doc c R₀ T₀ R T cur far cnt → member_r o k n cur.at (drop cur.at doc) ≡ bad p
      → Blocks doc c parent (block_r o k n c.at (drop c.at doc)) (Err (max far p)) R₀ R' T₀ T'
  unfolding block_r
  block_bad R T R' T' cur far cnt parent p l h =
      Laws.not_block doc c parent _ R₀ R' T₀ T' (max far p)
      (map_fmap (block_of o) (lines_r (firsts o) n (member_r o k n) c.at (drop c.at doc))
      ∙ ap (fmap (block_of o))
      (l.rest
      ∙ (ap (λ (u : Out (List (Member o))). raised far (fmap (l.done ++◌) u)) (lines_bad (firsts o) n (member_r o k n) cur.at (drop cur.at doc) l.bound p h) ∙ raised_bad far p)))

-- ---- a block of one item

module _ (k n : ℕ) (doc : List ℕ) (c : Cursor) (parent : ℕ) (R₀ T₀ R' T' : List ℕ) where
  pub bullet_is : bullet_r (item_r k (suc (suc n))) c.at (drop c.at doc) ≡ fmap (λ i. block_of false (i ∷ [])) (member_r false k n c.at (drop c.at doc))
  unfolding bullet_r member_r
  bullet_is = map_fmap (λ i. block_of false (i ∷ [])) (dashed_r (item_r k (suc (suc n))) c.at (drop c.at doc))

  pub bullet_bad : (p : ℕ) → member_r false k n c.at (drop c.at doc) ≡ bad p
      → Blocks doc c parent (bullet_r (item_r k (suc (suc n))) c.at (drop c.at doc)) (Err p) R₀ R' T₀ T'
  bullet_bad p h = Laws.not_block doc c parent _ R₀ R' T₀ T' p (bullet_is ∙ ap (fmap (λ i. block_of false (i ∷ []))) h)

  pub bullet_last : (R'' : List ℕ) (m : Cursor) (far e : ℕ) → Read false doc (within c) c.row (member_r false k n c.at (drop c.at doc)) m far e R₀ R' T₀ T'
      → R'' ≡ sets R' (width * c.row) (row_list unlined (kind_of false) c.at e 0 1 parent m.row)
      → Blocks doc c parent (bullet_r (item_r k (suc (suc n))) c.at (drop c.at doc)) (Ok (m, far, e)) R₀ R'' T₀ T'
  bullet_last R'' m far e g h =
      let ts = children false (g.member ∷ []) in
      let t : block_of false (g.member ∷ []) ≡ node (kind_of false) c.at e 1 (forest ts) = block_is false g.member [] ∙ rw (g.begins, g.ends) refl in
      Laws.a_block doc c parent _ R₀ R'' T₀ T' m far e
      (record {
        taken =
            record {
              tree = node (kind_of false) c.at e 1 (forest ts);
              is =
                  bullet_is
                  ∙ (ap (fmap (λ i. block_of false (i ∷ []))) g.is
                  ∙ (fmap_reached (λ i. block_of false (i ∷ [])) far g.member m.at (drop m.at doc) ∙ ap (λ (u : Tree). reached far u m.at (drop m.at doc)) t));
              span = whole_span doc c m parent (kind_of false) e 1 ts R₀ R' R'' T₀ T' g.spare g.written;
              filled = whole_filled doc c m parent (kind_of false) e 1 ts R₀ R' R'' T₀ T' g.spare g.written h;
            };
        ends = refl;
        inner = g.inner;
      })
