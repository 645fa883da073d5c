use Rattle.std.proofs.Common.{List, ℕ, ◌+◌, Option, ap, sym, subst, ◌++◌, ◌∷◌, [], ◌≡◌, ◌∙◌, length, drop, arith}
use Rattle.cell_placer.specs.declared.member.Accepted.{Accepted}
use Rattle.cell_placer.specs.Ledger.{LedgerValue, IsLedger, watch_of}
use Rattle.cell_placer.specs.Owners.{AreOwners}
use Rattle.cell_placer.specs.Ready.{IsSpot}
use Rattle.cell_placer.specs.View.{ledger_of}
use Rattle.cell_placer.proofs.Entries.{IsOwnedBy, owners_after, ledger_after, written_back}
use Rattle.cell_placer.proofs.ledger.Ledger.accept.Goals as goal

pub invariant_of-self : goal.invariant_of-self
invariant_of-self c =
    let l = ledger_of c.self.inside in
    let a = c.args.entry in
    let kept = c.self.invariant in
    let spot : IsSpot l a = subst (λ (v : LedgerValue). IsSpot v a) (sym c.self.view_is) c.requires.spot in
    let P : List Accepted → Type 0 =
    λ x. IsLedger (record { blocks = l.blocks; members = l.members; room = l.room; calls = l.calls + 1; accepted = x }) in
    let Q : List Accepted → Type 0 = λ x. AreOwners l.blocks l.members x c.own.new.owners in
    let owners = c.self.inside.owners in
    let written : IsOwnedBy l a owners.items c.own.new.owners = record {
      watch = c.args.watch.now;
      regs = c.as_slice.result.now;
      before = c.deref_mut.result.now;
      watch_is = c.requires.watch ∙ ap (λ (v : LedgerValue). watch_of v.members a) (sym c.self.view_is);
      regs_are = c.as_slice.ensures.value;
      before_is = c.deref_mut.ensures.value;
      after_is = c.own.ensures;
    } in
    let after : AreOwners l.blocks l.members (l.accepted ++ a ∷ []) c.own.new.owners = owners_after spot kept.owners written in
    let size : length c.own.new.owners ≡ owners.len = after.size ∙ sym kept.owners.size ∙ sym owners.ok.0 in
    let R : List (Option ℕ) → Type 0 = λ x. AreOwners l.blocks l.members c.push.new.self.items x in
    record {
      ledger = subst P (sym c.in-Ok.ensures.items) (ledger_after l a spot.call kept.ledger);
      owners =
          subst R (sym (written_back owners.len c.own.new.owners (drop (length c.own.new.owners) owners.items) size))
          (subst Q (sym c.in-Ok.ensures.items) after);
      memory = omega (arith, c.in-Ok.ensures.capacity, kept.memory);
    }
