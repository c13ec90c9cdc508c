-- A whole run over its memory: what it leaves there is what the machine has after the most lines.
use Rattle.std.proofs.Common.{◌≡◌, ℕ, List, ◌++◌, length, take, drop, replicate, Err, sym, refl, ap, ◌∙◌, arith}
use Rattle.std.proofs.lemmas.List.{length-append, take-append-le, take_all}
use Rattle.rows.specs.Rows.{in_front}
use Rattle.rows.proofs.Lent.{take_in_front}
use Rattle.bus.specs.declared.Message.{Message}
use Rattle.bus.specs.Reactions.{zeros}
use Rattle.sequential.specs.declared.outcome.Ended.{Ended}
use Rattle.sequential.specs.Sequential.{Machine}
use Rattle.sequential.specs.Runs.{ran, most_lines, next_in}
use Rattle.fare_rack.specs.FareRacks.{fare_rules}
use Rattle.oracle.specs.Machines.{longest_log, starts, machine_on}
use Rattle.oracle.proofs.Reached.{reached}

longest_is : longest_log ≡ 65536
unfolding longest_log
longest_is = refl

module _ (end : ℕ) (stimuli log pending : List Message) (count n : ℕ) where
  abbrev at : ℕ → Machine
  at k = ran fare_rules end (replicate 8 zeros) (take count pending) k

  pub whole_run : (log' : List Message) (left : ℕ) (why : Ended) →
      pending ≡ stimuli ++ log → count ≡ length stimuli → length log ≡ 65536 → length log' ≡ length log →
      log' ≡ in_front (at n).log log → n ≡ length (at n).log → left ≡ length (at n).pending →
      next_in (length pending) (most_lines (length log)) (at n) ≡ Err why →
      (take n log' ≡ (machine_on end stimuli).log) × (left ≡ length (machine_on end stimuli).pending)
  whole_run log' left why laid counted long kept wrote lined waits ended =
      let given : take count pending ≡ stimuli =
      ap (take count) laid ∙ take-append-le count stimuli log (omega arith) ∙ take_all count stimuli (omega arith) in
      let lines : most_lines (length log) ≡ longest_log = omega (arith, longest_is) in
      let room = length-append stimuli log in
      let written = length-append (at n).log (drop (length (at n).log) log) in
      let there : at n ≡ machine_on end stimuli =
      reached fare_rules end starts (take count pending) n (length pending) (most_lines (length log)) why
      (omega (arith, ap length laid, room, ap length given)) lined (omega (arith, ap length wrote, written)) ended
      ∙ ap at lines
      ∙ ap (machine_on end) given in (
        ap (take n) wrote ∙ take_in_front (at n).log log n (sym lined) ∙ ap (λ (m : Machine). m.log) there,
        waits ∙ ap (λ (m : Machine). length m.pending) there,
      )
