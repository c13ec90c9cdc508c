-- A new bench is tied to a new machine.
use Rattle.std.proofs.Common.{◌≡◌, ℕ, List, [], ◌∷◌, length, get_or, replicate, refl, ◌∙◌, inl, inr, arith}
use Rattle.std.proofs.lemmas.List.{get_or_past, get_or-replicate, length-replicate}
use Rattle.std.proofs.lemmas.Bool.{cases_lt}
use Rattle.bus.specs.Reactions.{zeros}
use Rattle.bus.specs.declared.Words.{Words}
use Rattle.savers.specs.Rows.{Row}
use Rattle.sequential.specs.Sequential.{fresh}
use Rattle.addressing.specs.Settings.{Setting}
use Rattle.model.specs.Law.{SetUp}
use Rattle.model.specs.State.{no_queues, started}
use Rattle.model.proofs.Tied.{Board, Tied}

pub empty_queue : (k : ℕ) → get_or (replicate 8 no_queues) k no_queues ≡ no_queues
empty_queue k = elim (cases_lt k 8) [ inl h ↦ get_or-replicate 8 k no_queues no_queues h | inr h ↦ get_or_past (replicate 8 no_queues) k no_queues (omega arith) ]

empty_board : (c : Setting) (k : ℕ) (w : Words) → Board c 0 [] k w 0 no_queues (w ∷ [])
empty_board c k w = record { sent_is = refl; chain = refl; ordered = tt; stands = tt; opens = tt; earlies = tt }

pub start_tied : (c : Setting) (starts : List Words) (rows : List Row) → SetUp c starts rows → Tied c (fresh c starts []) [] (started rows)
start_tied c starts rows u = record {
  eight = refl;
  tall = omega (arith, u.0);
  words_wide = u.1;
  sent_wide = length-replicate (length starts) 0 ∙ u.1;
  logged = refl;
  board = λ k kb. rw (empty_queue k, get_or-replicate {A = ℕ} (length starts) k 0 0 (omega (arith, kb, u.1)), u.2 k kb) (empty_board c k (get_or starts k zeros));
  idle = λ k kb. empty_queue k;
  moving = tt;
  balance = λ x. refl;
  past = tt;
  runs_are = refl;
  committed_are = refl;
}
