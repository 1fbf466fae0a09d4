-- Marks of named nodes, event by event. Assumes nothing.
use mathlib.Core.Path.{◌≡◌, refl, sym, ap, ◌∙◌}
use mathlib.Core.Bool.{Bool, true, false, ◌||◌, or-true}
use mathlib.Core.List.{List, [], ◌∷◌}
use Prim.Native.Nat.{ℕ, ◌+◌, ◌≤◌, ◌<◌}
use lib.Dec.{eqb}
use lib.ListN.{length, get_or, set, length-set, replicate, length-replicate}
use lib.Seq.{get_or-set_same, get_or-set_other}
use borrow.Author.Tests.{eqb-true, eqb-false}
use Rattle.model.specs.Row.{some_of, max_nodes}
use Rattle.model.specs.Record.{Bytes, field_at, is_broken, length_at, offsets}
use Rattle.records.proofs.Header.{Whole, whole}
use Rattle.records.proofs.Offsets.{remaining, remaining_all, remaining_none, remaining_whole, remaining_broken}
use Rattle.named_tables.specs.Named.{is_named, named_marks, NamesNodes}

module _ (bs : Bytes) where
  -- what is left to be named gives all marks
  pub record Marking (marks : List Bool) (at : ℕ) : Type 0 where
    pub long : length marks ≡ max_nodes
    pub names : NamesNodes bs (remaining bs at)
    pub is : named_marks bs (remaining bs at) marks ≡ named_marks bs (offsets bs) (replicate max_nodes false)

  pub marking_start : NamesNodes bs (offsets bs) → Marking (replicate max_nodes false) 0
  marking_start n =
      record {
        long = length-replicate {A = Bool} max_nodes false;
        names = rw (remaining_all bs) at n;
        is = ap (λ (l : List ℕ). named_marks bs l (replicate max_nodes false)) (sym (remaining_all bs));
      }

  module _ (marks : List Bool) (at : ℕ) (m : Marking marks at) (h : at < length bs) where
    first : (is_broken bs at ≡ false) × (at + 6 ≤ length bs) × (field_at bs at 0 < max_nodes)
    first = go (is_broken bs at) refl
      where
        go : (t : Bool) → is_broken bs at ≡ t → (is_broken bs at ≡ false) × (at + 6 ≤ length bs) × (field_at bs at 0 < max_nodes)
        go true e = let n = rw (remaining_broken bs at h e) at m.names in (n.0, n.1, n.2)
        go false e = let n = rw (remaining_whole bs at h e) at m.names in (n.0, n.1, n.2)

    pub marking_whole : Whole bs at
    marking_whole = whole bs at first.0

    pub marking_inside : at + 6 ≤ length bs
    marking_inside = first.1

    pub marking_node : field_at bs at 0 < max_nodes
    marking_node = first.2

    pub marking_more : (table next : ℕ) → table ≡ field_at bs at 0 → next ≡ at + length_at bs at → Marking (set marks table true) next
    marking_more table next e f =
        let rest = remaining_whole bs at h first.0 in
        rw (e, f)
        (record {
          long = length-set marks (field_at bs at 0) true ∙ m.long;
          names = (rw rest at m.names).3;
          is = ap (λ (l : List ℕ). named_marks bs l marks) (sym rest) ∙ m.is;
        })

  pub marking_end : (marks : List Bool) (at : ℕ) → Marking marks at → length bs ≤ at → marks ≡ named_marks bs (offsets bs) (replicate max_nodes false)
  marking_end marks at m h = ap (λ (l : List ℕ). named_marks bs l marks) (sym (remaining_none bs at h)) ∙ m.is

-- ---- what a mark says

length_named : (bs : Bytes) (ats : List ℕ) (marks : List Bool) → length (named_marks bs ats marks) ≡ length marks
length_named bs [] marks = refl
length_named bs (at ∷ ats) marks = length_named bs ats (set marks (field_at bs at 0) true) ∙ length-set marks (field_at bs at 0) true

-- a batch's marks are as many as nodes can be
pub length-marks : (bs : Bytes) (marks : List Bool) → marks ≡ named_marks bs (offsets bs) (replicate max_nodes false) → length marks ≡ max_nodes
length-marks bs marks e = ap length e ∙ length_named bs (offsets bs) (replicate max_nodes false) ∙ length-replicate {A = Bool} max_nodes false

-- a node is marked if it was, or if an event names it
pub named_at : (bs : Bytes) (ats : List ℕ) (marks : List Bool) (t : ℕ) → t < length marks → get_or (named_marks bs ats marks) t false ≡ (is_named bs ats t || get_or marks t false)
named_at bs [] marks t h = refl
named_at bs (at ∷ ats) marks t h =
    named_at bs ats (set marks (field_at bs at 0) true) t (rw (length-set marks (field_at bs at 0) true) h)
    ∙ go (eqb (field_at bs at 0) t) refl
  where
    later : Bool
    later = some_of (λ k. eqb (field_at bs k 0) t) ats

    go : (b : Bool) → eqb (field_at bs at 0) t ≡ b → (is_named bs ats t || get_or (set marks (field_at bs at 0) true) t false) ≡ ((b || is_named bs ats t) || get_or marks t false)
    go true e =
        let same : field_at bs at 0 ≡ t = eqb-true (field_at bs at 0) t e in
        ap (λ (x : Bool). is_named bs ats t || x) (ap (λ (k : ℕ). get_or (set marks k true) t false) same ∙ get_or-set_same marks t true false h) ∙ or-true (is_named bs ats t)
    go false e =
        ap (λ (x : Bool). is_named bs ats t || x) (get_or-set_other marks (field_at bs at 0) t true false (λ z. eqb-false (field_at bs at 0) t e (sym z)))
