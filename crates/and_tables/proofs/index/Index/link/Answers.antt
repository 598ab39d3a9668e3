use Rattle.and_policy.specs.declared.entry.Order.{Order}
use Rattle.std.proofs.Common.{refl}
use Rattle.and_tables.proofs.Chaining.{chain_entry}
use Rattle.and_tables.proofs.index.Index.link.Goals as goal

pub returns-in-Entry-clause-into : goal.returns-in-Entry-clause-into
returns-in-Entry-clause-into c = λ p here is. rw c.in-Entry.is (chain_entry (λ (o : Order). o.to_net) p c.in-Entry.field-0 c.args.self.now.into is)

pub returns-in-Entry-clause-until : goal.returns-in-Entry-clause-until
returns-in-Entry-clause-until c = λ p here is. rw c.in-Entry.is (chain_entry (λ (o : Order). o.until) p c.in-Entry.field-0 c.args.self.now.until is)

pub returns-in-Offload-clause-into : goal.returns-in-Offload-clause-into
returns-in-Offload-clause-into c = λ p here is. rw c.in-Offload.is (c.push.ensures (λ (o : Order). o.to_net) p c.in-Offload.order is refl here)

pub returns-in-Offload-clause-until : goal.returns-in-Offload-clause-until
returns-in-Offload-clause-until c = λ p here is. rw c.in-Offload.is (c.push-in-Offload.ensures (λ (o : Order). o.until) p c.in-Offload.order is refl here)
