-- The patterns and paths that a command gives are bytes.
use Rattle.std.proofs.Common.{ℕ, List, [], Option, None, Some}
use Rattle.std.specs.Prelude.{All, IfSome}
use Rattle.std.proofs.lemmas.List.Elements.{All-nil, All-cons, All-append}
use Rattle.ed_syntax.specs.Commands as ed
use Rattle.ed_syntax.specs.Commands.{Base, Address, Addresses, Without, One, Comma, Semicolon, Verb, Command}
use Rattle.ed_syntax.specs.meaning.Verbs.{takes}
use Rattle.ed_rules.specs.Matched.{sought_at, sought_by, sought_at_target, sought, asked_for}
use Rattle.ed_rules.specs.Formed.{ChoiceIsBytes, BaseIsBytes, AddressesAreBytes, TargetIsBytes, VerbIsBytes, TextsAreBytes}

abbrev pub TextIsBytes : List ℕ → Type 0
TextIsBytes text = ChoiceIsBytes (Some text)

base-bytes : (b : Base) → BaseIsBytes b → All TextIsBytes (sought_at b)
base-bytes (ed.Forward (Some text)) h = All-cons TextIsBytes text [] h (All-nil TextIsBytes)
base-bytes (ed.Forward None) h = All-nil TextIsBytes
base-bytes (ed.Backward (Some text)) h = All-cons TextIsBytes text [] h (All-nil TextIsBytes)
base-bytes (ed.Backward None) h = All-nil TextIsBytes
base-bytes _ h = All-nil TextIsBytes

addresses-bytes : (a : Addresses) → AddressesAreBytes a → All TextIsBytes (sought_by a)
addresses-bytes Without h = All-nil TextIsBytes
addresses-bytes (One a) h = base-bytes a.base h
addresses-bytes (Comma a b) h = All-append TextIsBytes (sought_at a.base) (sought_at b.base) (base-bytes a.base h.0) (base-bytes b.base h.1)
addresses-bytes (Semicolon a None) h = base-bytes a.base h
addresses-bytes (Semicolon a (Some b)) h =
    All-append TextIsBytes (sought_at a.base) (sought_at b.base) (base-bytes a.base h.0) (base-bytes b.base h.1)

sought_target-bytes : (target : Option Address) → TargetIsBytes target → All TextIsBytes (sought_at_target target)
sought_target-bytes None h = All-nil TextIsBytes
sought_target-bytes (Some a) h = base-bytes a.base h

pub sought-bytes : (c : Command) → TextsAreBytes c → All TextIsBytes (sought c)
sought-bytes c h =
    All-append TextIsBytes (sought_by c.addresses) (sought_at_target (takes c.verb).target) (addresses-bytes c.addresses h.0)
    (sought_target-bytes (takes c.verb).target h.1.0)

pub asked-bytes : (text : Option (List ℕ)) → ChoiceIsBytes text → All TextIsBytes (asked_for text)
asked-bytes None h = All-nil TextIsBytes
asked-bytes (Some text) h = All-cons TextIsBytes text [] h (All-nil TextIsBytes)

given-bytes : (text : Option (List ℕ)) → ChoiceIsBytes text → IfSome text TextIsBytes
given-bytes None h = tt
given-bytes (Some text) h = h

pub pattern-bytes : (v : Verb) → VerbIsBytes v → IfSome (takes v).pattern TextIsBytes
pattern-bytes v h = given-bytes (takes v).pattern h.1

pub path-bytes : (v : Verb) → VerbIsBytes v → IfSome (takes v).path TextIsBytes
path-bytes v h = given-bytes (takes v).path h.2
