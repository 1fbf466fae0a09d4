-- The batches of a file, one after the other. Assumes nothing.
use mathlib.Core.List.{List, ◌++◌, ◌∷◌, append-nil, []}
use mathlib.Core.Path.{◌≡◌, refl, ap, subst, sym, ◌∙◌}
use Prim.Native.Nat.{ℕ, ◌≤◌, zero-le, ◌+◌}
use lib.ListN.{length}
use lib.Seq.{append_snoc}
use borrow.Author.Tests.{le-leb, eq-eqb}
use mathlib.Core.Bool.{false, Bool, cond, true≢false, true}
use Rattle.model.specs.Record.{Bytes, Verdict, is_accepted}
use Rattle.model.specs.Areas.{Areas, cleared, layout}
use Rattle.model.specs.Calls.{Result, Applied, open_call}
use Rattle.demand3.specs.Runs.{Meets, Runs, end_of}
use Rattle.replay.specs.Replayed.{Reaches, calls_of, Replayed}
use Rattle.model.specs.Text.{pieces, batch, bytes_between, Piece, pieces_from}
use mathlib.Core.Logic.{◌⊎◌, inl, inr}
use Rattle.pieces.specs.Pieces.{Next, pieces_on}
use Rattle.pieces.specs.declared.Piece as cut
use Rattle.pieces.specs.declared.Piece.TheVariants.{Broken, Unfinished, End}
use Rattle.pieces.proofs.Cut.{pieces_all}
use Rattle.records.proofs.Offsets.{remaining_none}
use Rattle.demand3.proofs.Theorem.{demand_3, demand-words}
use Rattle.model.specs.Station.{Call, apply}

runs_more : (net : Bytes) (a : Areas) (done : List Call) (results : List Result) (c : Call) (r : Result) → Runs net a done results → Meets net c (end_of a results) r →
    Runs net a (done ++ (c ∷ [])) (results ++ (r ∷ []))
runs_more net a [] [] c r run m = (m, tt)
runs_more net a [] (x ∷ results) c r run m = absurd run
runs_more net a (d ∷ done) [] c r run m = absurd run
runs_more net a (d ∷ done) (x ∷ results) c r run m = (run.0, runs_more net x.areas done results c r run.1 m)

end_more : (a : Areas) (results : List Result) (r : Result) → end_of a (results ++ (r ∷ [])) ≡ r.areas
end_more a [] r = refl
end_more a (x ∷ results) r = end_more x.areas results r

-- what ends a file leaves no batch
pub none_left : (file : Bytes) (start : ℕ) (p : cut.Piece) → ((at : ℕ) × (p ≡ Broken at)) ⊎ (p ≡ Unfinished) ⊎ (p ≡ End) → Next file start p → calls_of (pieces_on file start) ≡ []
none_left file start p (inl e) n = ap calls_of (rw e.1 at n)
none_left file start p (inr (inl e)) n = ap calls_of (rw e at n)
none_left file start p (inr (inr e)) n = ap calls_of (rw e at n)

-- the batches before an offset are applied
pub record Replaying (net file : Bytes) (a after : Areas) (start : ℕ) : Type 0 where
  pub inside : start ≤ length file
  pub done : List Call
  pub reach : Reaches net a done after
  pub same : calls_of (pieces file) ≡ done ++ calls_of (pieces_on file start)

module _ (net file : Bytes) (a : Areas) where
  pub replay_start : Replaying net file a a 0
  replay_start = record { inside = zero-le; done = []; reach = record { results = []; runs = tt; end = refl }; same = ap calls_of (pieces_all file) }

  module _ (now : Areas) (start : ℕ) (k : Replaying net file a now start) where
    pub replay_more : (end : ℕ) (r : Result) → (start ≤ end) × (end + 4 ≤ length file) × (pieces_on file start ≡ batch (bytes_between file start end) ∷ pieces_on file (end + 4)) →
        Applied net (bytes_between file start end) now r → Replaying net file a r.areas (end + 4)
    replay_more end r n m =
        record {
          inside = n.1;
          done = k.done ++ (apply (bytes_between file start end) ∷ []);
          reach = record {
            results = k.reach.results ++ (r ∷ []);
            runs = runs_more net a k.done k.reach.results (apply (bytes_between file start end)) r k.reach.runs
                (subst (λ (x : Areas). Applied net (bytes_between file start end) x r) (sym k.reach.end) m);
            end = end_more a k.reach.results r;
          };
          same = k.same ∙ ap (λ (l : List Piece). k.done ++ calls_of l) n.2
              ∙ sym (append_snoc k.done (apply (bytes_between file start end)) (calls_of (pieces_on file (end + 4))));
        }

    -- no further batch
    pub replay_done : calls_of (pieces_on file start) ≡ [] → Reaches net a (calls_of (pieces file)) now
    replay_done e = let all : calls_of (pieces file) ≡ k.done = k.same ∙ ap (λ (l : List Call). k.done ++ l) e ∙ append-nil k.done in rw all k.reach

    pub replay_end : length file ≤ start → Reaches net a (calls_of (pieces file)) now
    unfolding pieces_from
    replay_end h =
        let none : pieces_from file start [] ≡ [] = rw (le-leb (length file) start h) refl in
        replay_done (ap calls_of (ap (pieces_from file start) (remaining_none file start h) ∙ none))

  -- ---- opening first

  pub replay_refused : (v : Verdict) (after : Areas) → record { verdict = v; areas = after } ≡ open_call net a → is_accepted v ≡ false →
      Replayed net file a (record { verdict = v; areas = after })
  unfolding open_call
  replay_refused v after e n =
      let same : v ≡ (open_call net a).verdict = ap (λ (x : Result). x.verdict) e in
      let no : is_accepted (open_call net a).verdict ≡ false = ap is_accepted (sym same) ∙ n in
      record {
        verdict = same;
        refused = λ z. ap (λ (x : Result). x.areas) e ∙ ap (λ (t : Bool). cond t (cleared layout a) a) no;
        accepted = λ y. absurd (true≢false (sym y ∙ no));
      }

  pub replay_held : (v : Verdict) (opened-areas after : Areas) → record { verdict = v; areas = opened-areas } ≡ open_call net a → v.number ≡ 0 →
      Reaches net opened-areas (calls_of (pieces file)) after → Replayed net file a (record { verdict = v; areas = after })
  replay_held v opened-areas after e z k =
      let same : v ≡ (open_call net a).verdict = ap (λ (x : Result). x.verdict) e in
      let areas-are : opened-areas ≡ (open_call net a).areas = ap (λ (x : Result). x.areas) e in
      let accepts : (open_call net a).verdict.number ≡ 0 = ap (λ (x : Verdict). x.number) (sym same) ∙ z in
      let yes : is_accepted (open_call net a).verdict ≡ true = eq-eqb (open_call net a).verdict.number 0 accepts in
      let run : Runs net (open_call net a).areas (calls_of (pieces file)) k.results = subst (λ (x : Areas). Runs net x (calls_of (pieces file)) k.results) areas-are
      k.runs in
      let end : end_of (open_call net a).areas k.results ≡ after = ap (λ (x : Areas). end_of x k.results) (sym areas-are) ∙ k.end in
      record {
        verdict = same;
        refused = λ n. absurd (true≢false (sym yes ∙ n));
        accepted = λ y.
            record {
              reaches = record { results = k.results; runs = run; end = end };
              demand = demand_3 net a (calls_of (pieces file)) k.results accepts run;
              words = sym end ∙ demand-words net a (calls_of (pieces file)) k.results accepts run;
            };
      }
