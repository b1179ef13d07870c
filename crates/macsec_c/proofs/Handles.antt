-- The four handles.
use Rattle.{
  macsec_ahead.specs.contracts.keeper.AheadKeeper.{the_row as keeper},
  macsec_jobs.specs.contracts.{job_key.JobKey.{the_row as job_key}, slot.Slot.{the_row as job_slot}},
  macsec_c_journals.specs.contracts.journals.OpenJournal.{the_row as open_journal},
  macsec_c.{
    proofs.{Handle.Handle, Names.refl},
    specs.contracts.{endpoint.Endpoint.{the_type as endpoint_type}, journal.Journal.{the_type as journal_type}},
    specs.contracts.{key.Key.{the_type as key_type}, slot.Slot.{the_type as slot_type}},
  },
}

abbrev pub endpoint : Handle
endpoint = record {
  struct = endpoint_type;
  held = keeper;
  at = λ h. h.at;
  state = λ h. h.state;
  of = λ p s.
      record { at = p; state = s };
  at_of = λ p s. refl;
  state_of = λ p s. refl;
}

abbrev pub key : Handle
key = record {
  struct = key_type;
  held = job_key;
  at = λ h. h.at;
  state = λ h. h.state;
  of = λ p s.
      record { at = p; state = s };
  at_of = λ p s. refl;
  state_of = λ p s. refl;
}

abbrev pub slot : Handle
slot = record {
  struct = slot_type;
  held = job_slot;
  at = λ h. h.at;
  state = λ h. h.state;
  of = λ p s.
      record { at = p; state = s };
  at_of = λ p s. refl;
  state_of = λ p s. refl;
}

abbrev pub journal : Handle
journal = record {
  struct = journal_type;
  held = open_journal;
  at = λ h. h.at;
  state = λ h. h.state;
  of = λ p s.
      record { at = p; state = s };
  at_of = λ p s. refl;
  state_of = λ p s. refl;
}
