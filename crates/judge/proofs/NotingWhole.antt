-- What the root and a whole document note. Assumes nothing.
use mathlib.Core.Path.{◌≡◌, refl, sym, ap, subst, ◌∙◌}
use mathlib.Core.List.{List, [], ◌∷◌}
use mathlib.Core.Bool.{true, false}
use Prim.Native.Nat.{ℕ, ◌-◌, ◌≤◌}
use native.Mathlib.Omega.{arith}
use lib.ListN.{length, drop}
use borrow.Author.Rules.{rules}
use Rattle.language.specs.Tree.{Tree, forest}
use Rattle.exact.specs.Verdict.{acc, stop}
use Rattle.exact.specs.Out.{Reader}
use Rattle.rooms.specs.declared.Cursor.{Cursor}
use Rattle.rooms.specs.Contract.{Ans}
use Rattle.std.specs.declared.result.Result.TheVariants.{Err, Ok}
use Rattle.rooms.specs.Contract.{Block}
use Rattle.rooms.specs.Contract.{Blocks}
use Rattle.characters.specs.Reads.{Skip}
use Rattle.characters.specs.Reads.{Skips}
use Rattle.notes.specs.Flat.{flat, flats, flats_one}
use Rattle.notes.specs.Notes.{Kept, kept_wide, Notes, one, kept_known}
use Rattle.blocks.specs.Openers.{opener_r}
use Rattle.blocks.specs.Root.{root_r}
use Rattle.blocks.specs.Document.{head_r, verdict}
use Rattle.judge.specs.declared.Start.{Start}
use Rattle.judge.specs.declared.Start.TheVariants.{Dash, Key, Line}
use Rattle.judge.specs.Members.{block_r}
use Rattle.judge.specs.Contract.{end_r, Looked, Finished, Logged}
use Rattle.judge.proofs.Containers.{looked_dash, looked_key, looked_line}
use Rattle.judge.proofs.Documents
use Rattle.judge.proofs.NotingBlocks.{merge_notes}

-- ---- the root

module _ (doc : List ℕ) (c : Cursor) (S S' : List ℕ) where
  abbrev Here : Reader Tree → Type 0
  Here r = Notes one doc c.at c.row 0 (r c.at (drop c.at doc)) S S'

  pub root_none_notes : (k : ℕ) → k ≡ 0 → Here (opener_r (end_r true) k 0) → Here (root_r k)
  root_none_notes k e x = rw (Documents.root_none_is k c.at (drop c.at doc) e) x

  module _ (k : ℕ) (z : k ≡ 0 → ⊥) (s : Start) (h : Looked doc c.at s) where
    pub root_dash_notes : s ≡ Dash → Here (block_r false (k - 1) 0) → Here (root_r k)
    root_dash_notes e x = rw (Documents.root_dash_is k c.at (drop c.at doc) z (looked_dash doc c.at s h e)) x

    pub root_key_notes : s ≡ Key → Here (block_r true (k - 1) 0) → Here (root_r k)
    root_key_notes e x = rw (Documents.root_key_is k c.at (drop c.at doc) z (looked_key doc c.at s h e)) x

    pub root_other_notes : (q : ℕ) → s ≡ Line q → Here (opener_r (end_r true) k 0) → Here (root_r k)
    root_other_notes q e x =
        merge_notes doc c.at c.row 0 q _ _ S S' (Documents.root_line_is k c.at (drop c.at doc) z q (looked_line doc c.at s q h e)) x

pub ruleset root_noting = (root_none_notes, root_dash_notes, root_key_notes, root_other_notes, rules)

-- ---- a whole pass

module _ (k : ℕ) (doc : List ℕ) where
  unlogged : (S S' : List ℕ) (p : ℕ) → verdict k doc ≡ stop p → Logged k doc S S'
  unlogged S S' p h = record { logged = λ t e. Documents.never (sym e ∙ h) }

  module _ (r : Skip) (hd : Skips doc 0 (head_r 0 doc) r) where
    pub passed_none_logged : (S : List ℕ) (p : ℕ) → r ≡ Err p → Logged k doc S S
    passed_none_logged S p e = unlogged S S p (Documents.head_no k doc r hd p e)

    module _ (at : ℕ) (e : r ≡ Ok at) (b : Block) (R R' T T' S S' : List ℕ)
        (w : Blocks doc (record { at = at; row = 0; text = 0 }) 0 (root_r k at (drop at doc)) b R R' T T') where
      pub passed_not_logged : (p : ℕ) → b ≡ Err p → Logged k doc S S'
      passed_not_logged p z = unlogged S S' p (Documents.root_no k doc r hd at e b R R' T T' w p z)

      pub passed_logged : (n : Cursor) (far f : ℕ) (a : Ans) → b ≡ Ok (n, far, f) → Finished doc n far a → Notes one doc at 0 0 (root_r k at (drop at doc)) S S' → Logged k doc S S'
      unfolding Finished
      passed_logged n far f (Err p) z x y = unlogged S S' _ (Documents.whole_no k doc r hd at e b R R' T T' w n far f z x.1)
      passed_logged n far f (Ok m) z x y =
          let g = Documents.got_root k doc r hd at e b R R' T T' w n far f z in
          let u : Kept doc at (flats 0 0 (forest (g.tree ∷ []))) n.at S S' = kept_known y far g.tree n.at (drop n.at doc) g.is in
          let i : 0 ≤ at = omega arith in
          record {
            logged = λ t h.
                let q : t ≡ g.tree = let v = Documents.whole_yes k doc r hd at e b R R' T T' w n far f z x.1 in cc in
                rw q (kept_wide i g.span.inside (rw (flats_one 0 0 g.tree) at u));
          }

pub ruleset pass_noting = (passed_none_logged, passed_not_logged, passed_logged, rules)
