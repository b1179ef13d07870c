-- How a client frame is sent (IEEE 802.1AE, 10.5).
use Rattle.std.specs.Prelude.{ℕ, ◌+◌, ◌-◌, ◌%◌, ◌^◌, List, [], ◌++◌, length, take, drop, map, find, slice_range, ◌==◌, nat_lt, if◌then◌else◌, Option, Some, None}
use Rattle.macsec_gcm.specs.Gcm.{seal_of}
use Rattle.macsec_tag.specs.Tag.{Tag, encoding}
use Rattle.macsec_tag.specs.Frame.{MpduParts, in_a_row}
use Rattle.macsec_suite.specs.Suites.{iv_of, last_of}
use Rattle.macsec_suite.specs.Keys.{PreparedKey}
use Rattle.macsec_suite.specs.Parts.{aad_and_plaintext, clear_length}
use Rattle.macsec_suite.specs.KeyRows.{InstalledKey, prepared_key, the_key, keys_noting}
use Rattle.macsec_suite.specs.CipherUses.{CipherUse, cipher_use}
use Rattle.macsec_tx.specs.declared.TxRow.{TxRow}
use Rattle.macsec_tx.specs.declared.TxOptions.{TxOptions}
use Rattle.macsec_tx.specs.Tags.{sci_sent, es_sent, scb_sent, sl_of}

-- the SA with this association number
abbrev pub tx_row : List TxRow → ℕ → Option TxRow
tx_row rows an = find (λ row. row.an == an) rows

-- the enabled SA
abbrev pub row_on : List TxRow → Option TxRow
row_on rows = find (λ row. row.on) rows

-- the SecTAG of a frame that the SA sends: E and C are both set if it encrypts and both clear otherwise (9.5); PN is
-- the low 32 bits of the packet number (9.8)
abbrev pub tag_sent : TxOptions → TxRow → List ℕ → Tag
tag_sent options row frame =
    let sa = slice_range frame 6 12 in record {
      es = es_sent options.form options.sci sa;
      scb = scb_sent options.form options.sci sa;
      e = row.conf;
      c = row.conf;
      an = row.an;
      sl = sl_of (length frame - 12);
      pn = row.next % 2 ^ 32;
      sci = sci_sent options.form options.many options.sci sa;
    }

-- the parts of a client frame protected with a key, an IV and a SecTAG; the Secure Data are the octets of the client's
-- data that stay clear, followed by the ciphertext of the rest
abbrev pub parts_under : PreparedKey → List ℕ → Tag → List ℕ → MpduParts
parts_under key iv tag frame =
    let da = take 6 frame in
    let sa = slice_range frame 6 12 in
    let client_data = drop 12 frame in
    let ap = aad_and_plaintext key.offset tag.e da sa tag client_data in
    let ct = seal_of key.bytes iv ap.0 ap.1 in
    record {
      da = da;
      sa = sa;
      tag = tag;
      secure_data = take (clear_length key.offset tag.e client_data) client_data ++ ct.0;
      icv = ct.1;
      padding = [];
    }

-- the IV of the SA's next frame
abbrev pub iv_sent : TxOptions → InstalledKey → TxRow → List ℕ
iv_sent options key row = iv_of key.suite options.sci key.ssci key.salt row.next

-- the parts of the frame that the SA sends for a client frame
abbrev pub parts_sent : TxOptions → InstalledKey → TxRow → List ℕ → MpduParts
parts_sent options key row frame =
    parts_under (prepared_key key) (iv_sent options key row) (tag_sent options row frame) frame

-- the octets of that frame
abbrev pub protected_frame : TxOptions → InstalledKey → TxRow → List ℕ → List ℕ
protected_frame options key row frame = in_a_row (parts_sent options key row frame)

-- the use of the cipher by that frame
abbrev pub use_sent : TxOptions → InstalledKey → TxRow → List ℕ → CipherUse
use_sent options key row frame = cipher_use key (iv_sent options key row) (parts_sent options key row frame)

-- the octets that protection adds: SecTAG and ICV
abbrev pub octets_added : Tag → ℕ
octets_added tag = length (encoding tag) + 16

-- what is sent: the client frame unchanged, a frame protected under this key, or nothing, because no SA can send or the
-- frame would be too long
pub data Leaving : Type 0 where
  plain : Leaving
  protected : (key : ℕ) → (frame : List ℕ) → Leaving
  no_sa : Leaving
  too_long : Leaving

-- what is sent, and the SA that protects it, if any, as it was before the frame
pub record Sending : Type 0 where
  pub leaving : Leaving
  pub by : Option TxRow

-- sent unprotected, or not sent
abbrev pub not_protected : Leaving → Sending
not_protected leaving = record { leaving = leaving; by = None }

-- what the enabled SA sends: nothing if there is no such SA or it has no packet number left, nothing if the protected
-- frame would be longer than `max_frame`, and otherwise the protected frame
abbrev pub sending_by : TxOptions → List InstalledKey → List ℕ → Option TxRow → Sending
sending_by options keys frame None = not_protected no_sa
sending_by options keys frame (Some row) =
    let key = the_key keys row.key in
    if nat_lt (last_of key.suite) row.next then not_protected no_sa
    else if nat_lt options.max_frame (length frame + octets_added (tag_sent options row frame)) then not_protected too_long
    else record { leaving = protected row.key (protected_frame options key row frame); by = Some row }

-- what is sent: if protection is on, what the enabled SA sends; if it is off, the client frame, unless it is longer
-- than `max_frame`
abbrev pub sending : TxOptions → List InstalledKey → List TxRow → List ℕ → Sending
sending options keys rows frame =
    if options.protect then sending_by options keys frame (row_on rows)
    else not_protected (if nat_lt options.max_frame (length frame) then too_long else plain)

abbrev pub next_used : TxRow → TxRow
next_used row = record row { next = row.next + 1 }

-- the SA, with its packet number used if it has this association number
abbrev pub used_at : ℕ → TxRow → TxRow
used_at an row = if row.an == an then next_used row else row

-- the SAs after a client frame: the one that protects it has used its packet number
abbrev pub rows_after : List TxRow → Option TxRow → List TxRow
rows_after rows None = rows
rows_after rows (Some by) = map (used_at by.an) rows

-- the keys after a client frame: the SA's key has used the packet number
abbrev pub keys_after : List InstalledKey → Option TxRow → List InstalledKey
keys_after keys None = keys
keys_after keys (Some by) = keys_noting keys by.key by.next
