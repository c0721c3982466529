-- WHAT READERS NOTE: where a reader answers with a value, the keys of its trees are noted, each as it stands in the document. Assumes nothing.
use Rattle.std.specs.Prelude.{◌≡◌, List, [], ◌∷◌, ◌++◌, ℕ, ◌+◌, ◌≤◌}
use Rattle.std.proofs.Common.{sym, subst, arith}
use Rattle.language.specs.Tree.{Tree, node, Forest, forest, sizes}
use Rattle.exact.specs.Out.{Out, bad}
use Rattle.exact.specs.Lines.{reached}
use Rattle.notes.specs.Flat.{Named, flats, flats_append, flats_one, flat_node}
use Rattle.notes.specs.Handed.{Took, took_none, took_append}
use Rattle.notes.specs.Lie.{Keys, keys_none, keys_append, keys_from, keys_to}
pub use Rattle.named.specs.Gives.{Gives, gives_ok, gives_soft, gives_reached, reached_gives, gives_none, gives_raise, gives_forward, Bound, gives_bind, gives_behind, Mapped, gives_fmap}

-- these keys, from `at` up to a, are noted
pub record Kept (doc : List ℕ) (at : ℕ) (ns : List Named) (a : ℕ) (S S' : List ℕ) : Type 0 where
  pub log : Took doc S ns S'
  pub lie : Keys doc at ns a

-- THE CONTRACT beside that of the rooms: the keys of the value's trees, the first of which has the row `row`, are noted
pub record Notes {X : Type 0} (trees : X → List Tree) (doc : List ℕ) (at row parent : ℕ) (o : Out X) (S S' : List ℕ) : Type 0 where
  pub kept : (v : X) (a : ℕ) → Gives o v a → Kept doc at (flats row parent (forest (trees v))) a S S'

abbrev pub one : Tree → List Tree
one t = t ∷ []

-- ---- keys noted one after another

pub kept_none : (doc : List ℕ) (at a : ℕ) (S : List ℕ) → at ≤ a → Kept doc at [] a S S
kept_none doc at a S h = record { log = took_none; lie = keys_none {a = at} {e = a} h }

pub kept_append : {doc : List ℕ} {at m a : ℕ} (ms ns : List Named) {S S' S'' : List ℕ} → Kept doc at ms m S S' → Kept doc m ns a S' S'' → Kept doc at (ms ++ ns) a S S''
kept_append ms ns {S} {S'} x y = record { log = took_append ms x.log y.log; lie = keys_append ms x.lie y.lie }

pub kept_wide : {doc : List ℕ} {at at' a a' : ℕ} {ns : List Named} {S S' : List ℕ} → at' ≤ at → a ≤ a' → Kept doc at ns a S S' → Kept doc at' ns a' S S'
kept_wide h k x = record { log = x.log; lie = keys_from h (keys_to k x.lie) }

-- trees one behind another
pub kept_trees : {doc : List ℕ} {at m a : ℕ} (row parent : ℕ) (ts us : List Tree) {S S' S'' : List ℕ} → Kept doc at (flats row parent (forest ts)) m S S'
    → Kept doc m (flats (row + sizes (forest ts)) parent (forest us)) a S' S'' → Kept doc at (flats row parent (forest (ts ++ us))) a S S''
kept_trees row parent ts us x y =
    rw (flats_append row parent ts us) (kept_append (flats row parent (forest ts)) (flats (row + sizes (forest ts)) parent (forest us)) x y)

-- a container's own row comes before those of its children
pub kept_node : {doc : List ℕ} {at a : ℕ} (row parent k b e c : ℕ) (ts : Forest) {S S' : List ℕ} → Kept doc at (flats (row + 1) row ts) a S S'
    → Kept doc at (flats row parent (forest (node k b e c ts ∷ []))) a S S'
kept_node row parent k b e c ts x = rw (flats_one row parent (node k b e c ts), flat_node row parent k b e c ts) x

-- ---- from an answer that is known to what is noted, and back

module _ {X : Type 0} {trees : X → List Tree} {doc : List ℕ} {at row parent : ℕ} {o : Out X} {S S' : List ℕ} where
  pub notes_known : (far : ℕ) (w : X) (b : ℕ) (s : List ℕ) → o ≡ reached far w b s → Kept doc at (flats row parent (forest (trees w))) b S S' → Notes trees doc at row parent o S S'
  notes_known far w b s e x =
      record {
        kept = λ v a g.
            let h = reached_gives far w b s (subst (λ (u : Out X). Gives u v a) e g) in
            rw (h.0, h.1) x;
      }

  pub notes_bad : (p : ℕ) → o ≡ bad p → Notes trees doc at row parent o S S'
  notes_bad p e = record { kept = λ v a g. absurd (gives_none (subst (λ (u : Out X). Gives u v a) e g)) }

  pub kept_known : Notes trees doc at row parent o S S' → (far : ℕ) (w : X) (b : ℕ) (s : List ℕ) → o ≡ reached far w b s → Kept doc at (flats row parent (forest (trees w))) b S S'
  kept_known x far w b s e = x.kept w b (subst (λ (u : Out X). Gives u w b) (sym e) (gives_reached far w b s))

-- the same answer, from an earlier place on
pub notes_same : {X : Type 0} {trees : X → List Tree} {doc : List ℕ} {at at' row row' parent : ℕ} {o o' : Out X} {S S' : List ℕ}
    → o ≡ o' → at ≤ at' → row ≡ row' → Notes trees doc at' row' parent o' S S' → Notes trees doc at row parent o S S'
notes_same {X} {at' = at'} e l r x =
    record {
      kept = λ v a g.
          let k = x.kept v a (subst (λ (u : Out X). Gives u v a) e g) in
          let z : a ≤ a = omega arith in
          rw r (kept_wide l z k);
    }
