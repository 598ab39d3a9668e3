use Rattle.std.proofs.Common.{◌≡◌, sym, ap, ◌∙◌, subst}
use Rattle.and_top.specs.Names.{named}
use Rattle.and_top.specs.Pieces.{text_of}
use Rattle.and_top.specs.Statuses.{fault_line}
use Rattle.and_top.specs.Telling.{Tells}
use Rattle.and_top.proofs.commands.tell_fault.Goals as goal

pub returns-in-Read : goal.returns-in-Read
returns-in-Read g c =
    let line : text_of c.file_line.result ≡ fault_line (named c.args.names.now) c.args.fault.now = c.file_line.ensures ∙ ap (fault_line (named c.args.names.now)) (sym c.in-Read.is) in
    subst (λ t. Tells 3 t (g.E.Sink.stream c.args.err.now) (g.E.Sink.stream c.tell-in-Read.new.err)) line c.tell-in-Read.ensures

pub returns-in-Write : goal.returns-in-Write
returns-in-Write g c =
    let line : text_of c.file_line-in-Write.result ≡ fault_line (named c.args.names.now) c.args.fault.now = c.file_line-in-Write.ensures ∙ ap (fault_line (named c.args.names.now)) (sym c.in-Write.is) in
    subst (λ t. Tells 3 t (g.E.Sink.stream c.args.err.now) (g.E.Sink.stream c.tell-in-Write.new.err)) line c.tell-in-Write.ensures
