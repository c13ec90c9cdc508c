-- The states to which a set-up and calls lead, and what is known of them.
use Rattle.std.proofs.Common.{◌≡◌, ℕ, ◌+◌, ◌<◌, List, [], ◌∷◌, ◌++◌, length, get_or, refl, ap, ◌∙◌, subst}
use Rattle.bus.specs.Reactions.{zeros}
use Rattle.bus.specs.declared.Message.{Message}
use Rattle.bus.specs.declared.Words.{Words}
use Rattle.savers.specs.Rows.{Row}
use Rattle.sequential.specs.Sequential.{Machine, step}
use Rattle.addressing.specs.Settings.{Setting, boards_of}
use Rattle.model.specs.Law.{Reached, SetUp, log, machine}
use Rattle.model.specs.Perform.{after, perform}
use Rattle.model.specs.State.{State, at_board, row_at, started}
use Rattle.model.specs.declared.call.Call.{Call}
use Rattle.model.proofs.Tied.{Tied}
use Rattle.model.proofs.Chains.{chain_long}
use Rattle.model.proofs.Law.{tied}

pub reached_start : (c : Setting) (starts : List Words) (rows : List Row) → SetUp c starts rows → Reached c (started rows)
reached_start c starts rows u = record { starts = starts; rows = rows; calls = []; set_up = u; by_calls = refl }

pub after_append : (c : Setting) (xs ys : List Call) (s : State) → after c s (xs ++ ys) ≡ after c (after c s xs) ys
after_append c [] ys s = refl
after_append c (x ∷ xs) ys s = after_append c xs ys (perform c s x).0

pub reached_more : (c : Setting) (s : State) → Reached c s → (call : Call) → Reached c (perform c s call).0
reached_more c s r call = record {
  starts = r.starts;
  rows = r.rows;
  calls = r.calls ++ call ∷ [];
  set_up = r.set_up;
  by_calls = after_append c r.calls (call ∷ []) (started r.rows) ∙ ap (λ (x : State). (perform c x call).0) r.by_calls;
}

-- what holds at the start, and after each call if it held before, holds of every reached state
pub reached_all : (c : Setting) (P : State → Type 0) → ((rows : List Row) → P (started rows)) →
    ((s : State) → Reached c s → P s → (call : Call) → P (perform c s call).0) → (s : State) → Reached c s → P s
reached_all c P base step s r = subst P r.by_calls (from r.calls (started r.rows) (reached_start c r.starts r.rows r.set_up) (base r.rows))
  where
    from : (calls : List Call) (s : State) → Reached c s → P s → P (after c s calls)
    from [] s r p = p
    from (x ∷ xs) s r p = from xs (perform c s x).0 (reached_more c s r x) (step s r p x)

-- the machine that a reached state is tied to, and its lines
module _ (c : Setting) (s : State) (r : Reached c s) where
  abbrev pub its_machine : Machine
  its_machine = machine c r.starts r.rows r.calls

  abbrev pub its_lines : List Message
  its_lines = log c r.starts r.rows r.calls

  pub reached_tied : Tied c its_machine its_lines s
  reached_tied = subst (Tied c its_machine its_lines) r.by_calls (tied c r.starts r.rows r.set_up r.calls)

  -- in the saver of each board are the words before and after each standing event
  pub reached_level : (k : ℕ) → k < boards_of c → length (row_at s k) ≡ length (at_board s k).standing + 1
  reached_level k kb =
      chain_long c k (get_or its_machine.words k zeros) (get_or its_machine.sent k 0) (at_board s k).standing (row_at s k) (reached_tied.board k kb).chain
