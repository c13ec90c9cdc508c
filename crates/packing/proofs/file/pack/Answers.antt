-- A bad end time, a bad line, want of memory, and the packed file.
use Rattle.std.proofs.Common.{Err, vec_items, ap, ◌∙◌}
use Rattle.std.proofs.lemmas.Result.{err_from_is_err_and}
use Rattle.packing.proofs.Listings.{unnumbered, bad_end, packs_the_lines, wants_memory, refused, packed}
use Rattle.packing.proofs.file.pack.Goals as goal

pub returns-in_err-end : goal.returns-in_err-end
returns-in_err-end c =
    let p = err_from_is_err_and c.from_residual.result c.from_residual.ensures.1 in
    let a = refused (λ v. vec_items v) c.args.text.now c.from_residual.result _ (p.1 ∙ ap Err p.2) (bad_end _ c.args.text.now c.read_end_line.result _ c.in_err-end.ensures c.read_end_line.ensures) in
    record { packs_or_refuses = a.told; undoes_the_listing = a.law }

pub returns-in_err-size : goal.returns-in_err-size
returns-in_err-size c =
    let end = rw (unnumbered _ _ c.read_end_line.result c.in_ok-end.ensures) at c.read_end_line.ensures in
    let p = err_from_is_err_and c.from_residual-in_err-size.result c.from_residual-in_err-size.ensures.1 in
    let a = refused (λ v. vec_items v) c.args.text.now c.from_residual-in_err-size.result _ (p.1 ∙ ap Err p.2) (c.in_err-size.ensures c.args.text.now _ end.0 end.1) in
    record { packs_or_refuses = a.told; undoes_the_listing = a.law }

pub returns-in_err-write_file : goal.returns-in_err-write_file
returns-in_err-write_file c =
    let end = rw (unnumbered _ _ c.read_end_line.result c.in_ok-end.ensures) at c.read_end_line.ensures in
    let p = err_from_is_err_and c.from_residual-in_err-write_file.result c.from_residual-in_err-write_file.ensures.1 in
    let a = refused (λ v. vec_items v) c.args.text.now c.from_residual-in_err-write_file.result _ (p.1 ∙ ap Err p.2) (wants_memory c.args.text.now _ _ _ end.0 end.1 c.in_ok-size.ensures) in
    record { packs_or_refuses = a.told; undoes_the_listing = a.law }

pub returns : goal.returns
returns c =
    let end = rw (unnumbered _ _ c.read_end_line.result c.in_ok-end.ensures) at c.read_end_line.ensures in
    let a = packed (λ v. vec_items v) c.args.text.now c.in_ok-write_file.field-0 (packs_the_lines c.args.text.now _ _ _ _ end.0 end.1 c.in_ok-size.ensures c.in_ok-write_file.ensures) in
    record { packs_or_refuses = a.told; undoes_the_listing = a.law }
