-- Laws of a whole document: comments before the root, the root, blank lines behind it, and the number of a refusal. Assumes nothing.
use mathlib.Core.Path.{◌≡◌, refl, sym, ap, subst, ◌∙◌}
use mathlib.Core.List.{List, [], ◌∷◌, ◌++◌}
use mathlib.Core.Bool.{Bool, true, false}
use Prim.Native.Nat.{ℕ, zero, suc, ◌+◌, ◌-◌, ◌≤◌, ◌<◌, max}
use native.Mathlib.Omega.{arith}
use lib.ListN.{length, get_or, drop, drop_of_length-le, length-drop}
use lib.Seq.{drop-cons}
use borrow.Author.Rules.{rules}
use borrow.Author.Tests.{le-leb, lt-leb, lt-ltb, le-ltb}
use Rattle.language.specs.Tree.{Tree}
use Rattle.language.specs.Document.{Document}
use Rattle.language.specs.declared.Refusal.TheVariants.{Char, Syntax, Deep, End}
use Rattle.language.specs.Answered.{limit, deepest}
use Rattle.exact.specs.Verdict.{Tail, Far, Verdict, acc, stop, stops}
use Rattle.exact.specs.Class.{is, only, only_yes, only_no}
use Rattle.exact.specs.Out.{Out, Reader, bind, fmap, finish, Tamed, Tame, forward, tamed_less, ok, bad, t_ok, t_soft, t_bad}
use Rattle.exact.specs.Answers.{fmap_none, fmap_join}
use Rattle.exact.specs.Lang.{ret_r, byte_r, end_r}
use Rattle.exact.specs.Comb.{seq_r, seq_tame, star_r}
use Rattle.exact.specs.Ll.{byte₁}
use Rattle.exact.specs.Place.{peek, peek_in, peek_cons, There, byte_there, none_there, there, get_d_any, run_end, run_end_lem, run_over, run_none, run_more}
use Rattle.exact.specs.Lines.{reached, raised, raised_ok, bind_reached}
use Rattle.rooms.specs.Told.{spot, tally, spot_low, tally_low}
use Rattle.rooms.specs.declared.Cursor.{Cursor}
use Rattle.rooms.specs.Contract.{Ans}
use Rattle.std.specs.declared.result.Result.TheVariants.{Err, Ok}
use Rattle.rooms.specs.Contract.{Block}
use Rattle.rooms.specs.Contract.{Ready, Taken, Blocks}
use Rattle.rooms.specs.Laws
use Rattle.characters.specs.Reads.{Skip}
use Rattle.characters.specs.Reads.{Ends, Skips}
use Rattle.utf8.specs.Allowed.{bad_char}
use Rattle.utf8.specs.Told.{Answer, refused_char, refused_syntax, refused_deep, refused_end}
use Rattle.characters.specs.Comments.{comment_r, comment_ll}
use Rattle.strings.specs.Keys.{key_r}
use Rattle.blocks.specs.Or.{merge}
use Rattle.blocks.specs.KeyLook.{keyed, dashed}
use Rattle.blocks.specs.Openers.{opener_r}
use Rattle.blocks.proofs.StraightLaws.{root_array, root_object, root_line}
use Rattle.blocks.specs.Root.{root_r}
use Rattle.blocks.specs.Document.{head_r, blanks_r, whole_r, verdict}
use Rattle.blocks.proofs.DocumentLaws.{exact}
use Rattle.blocks.specs.Judged.{judge, Judged}
use Rattle.blocks.proofs.JudgedLaws.{judged}
use Rattle.judge.specs.declared.Start.{Start}
use Rattle.judge.specs.declared.Start.TheVariants.{Dash, Key, Line}
use Rattle.judge.specs.Members.{block_r, array_block, object_block}
use Rattle.judge.specs.Blamed.{Blamed}
use Rattle.judge.specs.Contract.{feed_r, end_r as lineEnd, Neither, Looked, later, comment_line_r, Finished, Known, Checked, Filled}
use Rattle.judge.proofs.Lining.{later_block}
use Rattle.judge.proofs.Containers.{looked_dash, looked_key, looked_line}

-- a document begins with no text and no escapes
spot_none : spot 0 ≡ 0
spot_none = spot_low 0 (omega arith)

tally_none : tally 0 ≡ 0
tally_none = tally_low 0 (omega arith)

-- ---- a comment and its LF

module _ (doc : List ℕ) (at : ℕ) (r : Skip) (h : Skips doc at (comment_r at (drop at doc)) r) where
  pub comment_bad : (p : ℕ) → r ≡ Err p → Skips doc at (comment_line_r at (drop at doc)) (Err p)
  unfolding Skips comment_line_r
  comment_bad p e = let k : comment_r at (drop at doc) ≡ bad p = rw e at h in ap (λ (o : Out (List ℕ)). bind o (λ _. byte_r (is (only 10)))) k

  pub comment_in : (n : ℕ) → r ≡ Ok n → n ≤ length doc
  unfolding Skips
  comment_in n e = let k : Ends doc at (comment_r at (drop at doc)) n = rw e at h in k.inside

  pub comment_fed : (n : ℕ) (s : Skip) → r ≡ Ok n → Skips doc n (feed_r n (drop n doc)) s → Skips doc at (comment_line_r at (drop at doc)) s
  unfolding Skips comment_line_r feed_r
  comment_fed n s e g =
      let k : Ends doc at (comment_r at (drop at doc)) n = rw e at h in
      go s k (ap (λ (o : Out (List ℕ)). bind o (λ _. byte_r (is (only 10)))) k.is) g
    where
      go : (s : Skip) → Ends doc at (comment_r at (drop at doc)) n → comment_line_r at (drop at doc) ≡ byte_r (is (only 10)) n (drop n doc) → Skips doc n (byte_r (is (only 10)) n (drop n doc)) s
          → Skips doc at (comment_line_r at (drop at doc)) s
      go (Ok m) k q g = record { value = g.value; is = q ∙ g.is; behind = omega (arith, k.behind, g.behind); inside = g.inside }
      go (Err p) k q g = q ∙ g

-- ---- the comments before the root

abbrev hashes : ℕ → Reader (List ℕ)
hashes k = star_r (is (only 35)) comment_line_r k

-- one of them has a byte at least
hash_tame : Tame 1 comment_line_r
unfolding comment_line_r
hash_tame = record { tame = λ at s. tamed_less 1 (omega arith) ((seq_tame comment_ll.exact.moves (λ _. (byte₁ 10).exact.moves)).tame at s) }

hash_ahead : {at : ℕ} {s : List ℕ} {o : Out ℕ} (v n : ℕ) (t : List ℕ) → Tamed 1 at s o → o ≡ ok v n t → at < n
hash_ahead v n t (t_ok {a = a} m) e = let z : a ≡ n = cc in omega (arith, forward m)
hash_ahead v n t (t_soft p m l) e = let z : ◌≡◌ {A = ℕ} 0 1 = cc in absurd (omega arith)
hash_ahead v n t (t_bad p l m) e = let z : ◌≡◌ {A = ℕ} 0 1 = cc in absurd (omega arith)

-- at the loop's head: some were read, and the others are read from `at`, with a bound that is enough
pub record Headed (doc : List ℕ) (at : ℕ) : Type 0 where
  pub bound : ℕ
  pub done : List ℕ
  pub rest : head_r 0 doc ≡ fmap (done ++◌) (hashes bound at (drop at doc))
  pub enough : length doc ≤ bound + at
  pub inside : at ≤ length doc

pub head_start : (doc : List ℕ) → Headed doc 0
unfolding head_r comment_line_r
head_start doc = record { bound = length doc; done = []; rest = sym (fmap_none (hashes (length doc) 0 doc)); enough = omega arith; inside = omega arith }

module _ (doc : List ℕ) (at b : ℕ) (l : Headed doc at) (h : b ≡ peek doc at) where
  hash_turn : (k : ℕ) → length doc ≤ k + at → b ≡ 35 → (s : List ℕ) → drop at doc ≡ s
      → (m : ℕ) × (hashes k at s ≡ bind (comment_line_r at s) (λ v a t. fmap (v ∷◌) (hashes m a t))) × (length doc ≤ m + (at + 1))
  hash_turn k u e [] q = let i = peek_in doc at b h (omega arith) in let d = length-drop at doc in let z : length (drop at doc) ≡ 0 = ap length q in absurd (omega arith)
  hash_turn zero u e (c ∷ s) q = let i = peek_in doc at b h (omega arith) in absurd (omega arith)
  hash_turn (suc k) u e (c ∷ s) q =
      let p : c ≡ 35 = same (q, peek_cons doc at 35 (sym e ∙ h) (omega arith)) in
      (k, rw p refl, omega arith)
    where
      same : (drop at doc ≡ c ∷ s) × (drop at doc ≡ 35 ∷ drop (suc at) doc) → c ≡ 35
      same z = let x = z.0 in let y = z.1 in cc

  module _ (r : Skip) (e : b ≡ 35) (g : Skips doc at (comment_line_r at (drop at doc)) r) where
    head_turn : (m : ℕ) × (head_r 0 doc ≡ fmap (l.done ++◌) (bind (comment_line_r at (drop at doc)) (λ v a t. fmap (v ∷◌) (hashes m a t)))) × (length doc ≤ m + (at + 1))
    head_turn = let u = hash_turn l.bound l.enough e (drop at doc) refl in (u.0, l.rest ∙ ap (fmap (l.done ++◌)) u.1, u.2)

    pub head_bad : (p : ℕ) → r ≡ Err p → Skips doc 0 (head_r 0 doc) (Err p)
    unfolding Skips
    head_bad p z =
        let k : comment_line_r at (drop at doc) ≡ bad p = rw z at g in
        let u = head_turn in
        u.1 ∙ ap (λ (o : Out ℕ). fmap (l.done ++◌) (bind o (λ v a t. fmap (v ∷◌) (hashes u.0 a t)))) k

    got : (n : ℕ) → r ≡ Ok n → Ends doc at (comment_line_r at (drop at doc)) n
    unfolding Skips
    got n z = rw z at g

    ahead : (n : ℕ) → r ≡ Ok n → at < n
    ahead n z = let k = got n z in hash_ahead k.value n (drop n doc) (hash_tame.tame at (drop at doc)) k.is

    pub head_falls : (n : ℕ) → r ≡ Ok n → length doc - n < length doc - at
    head_falls n z = let k = got n z in let a = ahead n z in omega (arith, k.inside)

    pub head_more : (n : ℕ) → r ≡ Ok n → Headed doc n
    head_more n z =
        let k = got n z in
        let a = ahead n z in
        let u = head_turn in
        record {
          bound = u.0;
          done = l.done ++ k.value ∷ [];
          rest =
              u.1
              ∙ (ap (λ (o : Out ℕ). fmap (l.done ++◌) (bind o (λ v a t. fmap (v ∷◌) (hashes u.0 a t)))) k.is ∙ fmap_join l.done (k.value ∷ []) (hashes u.0 n (drop n doc)));
          enough = omega (arith, u.2);
          inside = k.inside;
        }

  pub head_last : (b ≡ 35 → ⊥) → Skips doc 0 (head_r 0 doc) (Ok at)
  unfolding Skips
  head_last e =
      record {
        value = l.done ++ [];
        is = l.rest ∙ ap (fmap (l.done ++◌)) (stop_hash l.bound (there doc at));
        behind = omega arith;
        inside = l.inside;
      }
    where
      stop_hash : (k : ℕ) → There doc at → hashes k at (drop at doc) ≡ ok [] at (drop at doc)
      stop_hash zero t = refl
      stop_hash (suc k) (byte_there q) = rw (q, only_no 35 (peek doc at) (λ z. e (h ∙ z))) refl
      stop_hash (suc k) (none_there q z) = rw q refl

-- ---- the root

-- which reader the root's is, by the look
module _ (k at : ℕ) (r : List ℕ) where
  pub root_none_is : k ≡ 0 → root_r k at r ≡ opener_r (lineEnd true) k 0 at r
  unfolding root_r
  root_none_is e = rw e refl

  module _ (z : k ≡ 0 → ⊥) where
    pub root_dash_is : dashed r ≡ true → root_r k at r ≡ block_r false (k - 1) 0 at r
    root_dash_is h = go k z
      where
        go : (k : ℕ) → (k ≡ 0 → ⊥) → root_r k at r ≡ block_r false (k - 1) 0 at r
        go zero z = absurd (z refl)
        go (suc k) z = let y : suc k - 1 ≡ k = omega arith in rw y (root_array k at r h ∙ ap (λ (q : Reader Tree). q at r) (array_block k 0))

    pub root_key_is : keyed (key_r at r) ≡ true → root_r k at r ≡ block_r true (k - 1) 0 at r
    root_key_is h = go k z
      where
        go : (k : ℕ) → (k ≡ 0 → ⊥) → root_r k at r ≡ block_r true (k - 1) 0 at r
        go zero z = absurd (z refl)
        go (suc k) z = let y : suc k - 1 ≡ k = omega arith in rw y (root_object k at r h ∙ ap (λ (q : Reader Tree). q at r) (object_block k 0))

    pub root_line_is : (q : ℕ) → Neither at r q → root_r k at r ≡ merge (opener_r (lineEnd true) k 0 at r) (bad q)
    root_line_is q g = go k z
      where
        go : (k : ℕ) → (k ≡ 0 → ⊥) → root_r k at r ≡ merge (opener_r (lineEnd true) k 0 at r) (bad q)
        go zero z = absurd (z refl)
        go (suc k) z = rw g.stops (root_line k at r g.no_dash g.no_key)

module _ (doc : List ℕ) (c : Cursor) (b : Block) (R R' T T' : List ℕ) where
  abbrev At : Reader Tree → Type 0
  At r = Blocks doc c 0 (r c.at (drop c.at doc)) b R R' T T'

  pub root_none : (k : ℕ) → k ≡ 0 → At (opener_r (lineEnd true) k 0) → At (root_r k)
  root_none k e w = rw (root_none_is k c.at (drop c.at doc) e) w

  module _ (k : ℕ) (z : k ≡ 0 → ⊥) (s : Start) (h : Looked doc c.at s) where
    pub root_dash : s ≡ Dash → At (block_r false (k - 1) 0) → At (root_r k)
    root_dash e w = rw (root_dash_is k c.at (drop c.at doc) z (looked_dash doc c.at s h e)) w

    pub root_key : s ≡ Key → At (block_r true (k - 1) 0) → At (root_r k)
    root_key e w = rw (root_key_is k c.at (drop c.at doc) z (looked_key doc c.at s h e)) w

    pub root_other : (q : ℕ) (l : Block) → s ≡ Line q → b ≡ later l q → Blocks doc c 0 (opener_r (lineEnd true) k 0 c.at (drop c.at doc)) l R R' T T' → At (root_r k)
    root_other q l e f w = rw (f, root_line_is k c.at (drop c.at doc) z q (looked_line doc c.at s q h e)) (later_block doc c 0 _ l q R R' T T' w)

-- ---- what follows the root

module _ (doc : List ℕ) (n : Cursor) (far e : ℕ) (h : e ≡ run_end (only 10) doc n.at) where
  pub finish_no : (g : ℕ) → e < length doc → g ≡ max far e → Finished doc n far (Err g)
  unfolding Finished
  finish_no g l k = (k ∙ ap (max far) h, rw h at l)

  pub finish_yes : length doc ≤ e → Finished doc n far (Ok n)
  unfolding Finished
  finish_yes l = (refl, rw h at l)

-- ---- a whole pass

pub never : {A : Type 0} {t : Tree} {p : ℕ} → acc t ≡ stop p → A
never e = let z : ◌≡◌ {A = ℕ} 0 1 = cc in absurd (omega arith)

module _ (k : ℕ) (doc : List ℕ) where
  stopped : (R R' T T' : List ℕ) (p : ℕ) → verdict k doc ≡ stop p → Filled k doc R R' T T'
  stopped R R' T T' p h = record { filled = λ t e. never (sym e ∙ h) }

  module _ (r : Skip) (hd : Skips doc 0 (head_r 0 doc) r) where
    pub head_no : (p : ℕ) → r ≡ Err p → verdict k doc ≡ stop p
    unfolding Skips verdict whole_r
    head_no p e = let z : head_r 0 doc ≡ bad p = rw e at hd in ap (λ (o : Out (List ℕ)). finish (bind o (λ _. seq_r (root_r k) blanks_r)) end_r) z

    pub passed_none : (p : ℕ) → r ≡ Err p → Checked k doc (Err p)
    unfolding Checked
    passed_none p e = head_no p e

    pub passed_nothing : (R T : List ℕ) (p : ℕ) → r ≡ Err p → Filled k doc R R T T
    passed_nothing R T p e = stopped R R T T p (head_no p e)

    pub passed_ready : (at : ℕ) → length doc ≤ limit → r ≡ Ok at → Ready doc (record { at = at; row = 0; text = 0 })
    unfolding Skips
    passed_ready at l e = let z : Ends doc 0 (head_r 0 doc) at = rw e at hd in record { small = l; inside = z.inside; few_rows = omega arith; few_text = omega (arith, spot_none); few_escapes = omega (arith, tally_none) }

    module _ (at : ℕ) (e : r ≡ Ok at) (b : Block) (R R' T T' : List ℕ)
        (w : Blocks doc (record { at = at; row = 0; text = 0 }) 0 (root_r k at (drop at doc)) b R R' T T') where
      behind : verdict k doc ≡ finish (bind (root_r k at (drop at doc)) blanks_r) end_r
      unfolding Skips verdict whole_r
      behind = let z : Ends doc 0 (head_r 0 doc) at = rw e at hd in ap (λ (o : Out (List ℕ)). finish (bind o (λ _. seq_r (root_r k) blanks_r)) end_r) z.is

      pub root_no : (p : ℕ) → b ≡ Err p → verdict k doc ≡ stop p
      root_no p z = behind ∙ ap (λ (o : Out Tree). finish (bind o blanks_r) end_r) (Laws.block_refusal doc _ 0 _ R R' T T' b p z w)

      pub passed_not : (p : ℕ) → b ≡ Err p → Checked k doc (Err p)
      unfolding Checked
      passed_not p z = root_no p z

      pub passed_unfilled : (p : ℕ) → b ≡ Err p → Filled k doc R R' T T'
      passed_unfilled p z = stopped R R' T T' p (root_no p z)

      module _ (n : Cursor) (far f : ℕ) (z : b ≡ Ok (n, far, f)) where
        pub got_root : Taken doc (record { at = at; row = 0; text = 0 }) 0 (root_r k at (drop at doc)) n far R R' T T'
        got_root = (Laws.block_taken doc _ 0 _ R R' T T' b n far f z w).taken

        tree : Tree
        tree = got_root.tree

        blank_read : blanks_r got_root.tree n.at (drop n.at doc) ≡ ok got_root.tree (run_end (only 10) doc n.at) (drop (run_end (only 10) doc n.at) doc)
        blank_read = ap (λ (o : Out (List ℕ)). bind o (λ _. ret_r got_root.tree)) (run_end_lem (only 10) doc n.at)

        whole_is : verdict k doc ≡ finish (reached far got_root.tree (run_end (only 10) doc n.at) (drop (run_end (only 10) doc n.at) doc)) end_r
        whole_is =
            behind
            ∙ (ap (λ (o : Out Tree). finish (bind o blanks_r) end_r) got_root.is
            ∙ ap (λ (o : Out Tree). finish o end_r)
            (bind_reached far got_root.tree n.at (drop n.at doc) blanks_r ∙ (ap (raised far) blank_read ∙ raised_ok far got_root.tree (run_end (only 10) doc n.at) _)))

        pub whole_yes : length doc ≤ run_end (only 10) doc n.at → verdict k doc ≡ acc got_root.tree
        whole_yes l = whole_is ∙ (ap (λ (s : List ℕ). finish (reached far got_root.tree (run_end (only 10) doc n.at) s) end_r) (drop_of_length-le doc l) ∙ go far)
          where
            go : (far : ℕ) → finish (reached far got_root.tree (run_end (only 10) doc n.at) []) end_r ≡ acc got_root.tree
            go zero = refl
            go (suc far) = refl

        pub whole_no : run_end (only 10) doc n.at < length doc → verdict k doc ≡ stop (max far (run_end (only 10) doc n.at))
        whole_no l = whole_is ∙ (ap (λ (s : List ℕ). finish (reached far got_root.tree (run_end (only 10) doc n.at) s) end_r) (drop-cons doc (run_end (only 10) doc n.at) 0 l) ∙ go far _ _)
          where
            go : (far c : ℕ) (s : List ℕ) → finish (reached far got_root.tree (run_end (only 10) doc n.at) (c ∷ s)) end_r ≡ stop (max far (run_end (only 10) doc n.at))
            go zero c s = ap stop (omega arith)
            go (suc far) c s = refl

        pub passed : (a : Ans) → Finished doc n far a → Checked k doc a
        unfolding Finished Checked
        passed (Ok m) x =
            let s = got_root.span in
            let y : m.row ≡ n.row = ap (λ (c : Cursor). c.row) x.0 in
            let u : m.text ≡ n.text = ap (λ (c : Cursor). c.text) x.0 in
            record { tree = got_root.tree; is = whole_yes x.1; row = omega (arith, s.row); text = ap spot u ∙ (s.text ∙ omega (arith, spot_none)); escapes = ap tally u ∙ (s.escapes ∙ omega (arith, tally_none)) }
        passed (Err p) x = whole_no x.1 ∙ ap stop (sym x.0)

        pub passed_filled : (a : Ans) → Finished doc n far a → Filled k doc R R' T T'
        unfolding Finished
        passed_filled (Ok m) x =
            record {
              filled = λ t e.
                  let q : t ≡ got_root.tree = let y = whole_yes x.1 in cc in
                  (rw q (rw spot_none at got_root.filled.table), rw q (rw spot_none at got_root.filled.room));
            }
        passed_filled (Err p) x = stopped R R' T T' _ (whole_no x.1)

-- ---- an empty room stays empty, and the whole with it

pub empty_kept : (l s : List ℕ) → length s ≡ 0 → s ++ drop 0 l ≡ l
empty_kept l [] h = refl
empty_kept l (x ∷ s) h = absurd (omega arith)

-- ---- the number of a refusal

far_of : {P : Tail Tree} {s : List ℕ} {p : ℕ} → Verdict P 0 s (stop p) → Far P 0 s p
far_of (stops _ v z) = v

module _ (doc : List ℕ) (p : ℕ) (h : verdict deepest doc ≡ stop p) where
  told : (g : Answer Tree) → judge doc ≡ g → Judged doc g
  told g e = subst (Judged doc) e (judged doc)

  pub blame_end : length doc ≤ p → Blamed doc (Err (End (record { 0 = p })))
  unfolding judge
  blame_end l =
      let v = far_of (subst (Verdict (Document deepest) 0 doc) h (exact deepest doc)) in
      let e : p ≡ length doc = omega (arith, v.here, v.within) in
      record { stops = rw e (told (refused_end (length doc)) (rw (h, le-leb (length doc) p l) refl)); alone = refl }

  module _ (a : Ans) (l : p < length doc) (w : Checked (deepest + 1) doc a) where
    pub blame_deep : (n : Cursor) → a ≡ Ok n → Blamed doc (Err (Deep (record { 0 = p })))
    unfolding judge Checked
    blame_deep n e =
        let k : Known (deepest + 1) doc n = rw e at w in
        record { stops = told (refused_deep p) (rw (h, lt-leb (length doc) p l, k.is) refl); alone = refl }

    module _ (q : ℕ) (e : a ≡ Err q) where
      second : verdict (deepest + 1) doc ≡ stop q
      unfolding Checked
      second = rw e at w

      pub blame_later : p < q → Blamed doc (Err (Deep (record { 0 = p })))
      unfolding judge
      blame_later k = record { stops = told (refused_deep p) (rw (h, lt-leb (length doc) p l, second, lt-ltb p q k) refl); alone = refl }

      pub blame_char : (x : Bool) → q ≤ p → x ≡ bad_char p doc → x ≡ true → Blamed doc (Err (Char (record { 0 = p })))
      unfolding judge
      blame_char x k f g = record { stops = told (refused_char p) (rw (h, lt-leb (length doc) p l, second, le-ltb p q k, sym f ∙ g) refl); alone = refl }

      pub blame_here : (x : Bool) → q ≤ p → x ≡ bad_char p doc → x ≡ false → Blamed doc (Err (Syntax (record { 0 = p })))
      unfolding judge
      blame_here x k f g = record { stops = told (refused_syntax p) (rw (h, lt-leb (length doc) p l, second, le-ltb p q k, sym f ∙ g) refl); alone = refl }

pub ruleset blaming = (blame_end, blame_deep, blame_later, blame_char, blame_here, rules)

-- the cursor moved behind a comment
module _ (doc : List ℕ) (n : ℕ) (c d : Cursor) (e : d ≡ record { at = n; row = c.row; text = c.text }) where
  pub head_on : Headed doc n → Headed doc d.at
  head_on h = rw e h

  pub head_nearer : (at : ℕ) → length doc - n < length doc - at → length doc - d.at < length doc - at
  head_nearer at h = rw e h

pub ruleset heading = (head_on, head_nearer, comment_bad, comment_in, comment_fed, head_bad, head_more, head_falls, head_last, rules)

pub ruleset rooting = (root_none, root_dash, root_key, root_other, rules)

pub ruleset finishing = (finish_no, finish_yes, rules)

pub ruleset passing = (passed_none, passed_nothing, passed_ready, passed_not, passed_unfilled, passed, passed_filled, rules)
