-- What a name says to several hands, and to one.
use Rattle.std.specs.Prelude.{◌≡◌, [], ◌∷◌, Some, None, true, false, codes, refl}
use Rattle.std.specs.Path.{rsplit_once}
use Rattle.orca_edge.specs.Names.{names_file, names_terminal, file_and_address, are_of_files}

pipe_and_address : file_and_address 2 (codes "./keys,localhost:7")
    ≡ Some (codes "./keys", codes "localhost:7")
unfolding rsplit_once
pipe_and_address = refl

terminal_and_address_of_version_6 : file_and_address 8 (codes "/dev/tty,[::1]:5")
    ≡ Some (codes "/dev/tty", codes "[::1]:5")
unfolding rsplit_once
terminal_and_address_of_version_6 = refl

last_comma_parts : file_and_address 2 (codes "a,b,h:7") ≡ Some (codes "a,b", codes "h:7")
unfolding rsplit_once
last_comma_parts = refl

comma_of_one_hand : file_and_address 1 (codes "./keys,localhost:7") ≡ None
comma_of_one_hand = refl

address_before_a_comma : file_and_address 2 (codes "h:7,h:8") ≡ None
unfolding rsplit_once
address_before_a_comma = refl

address_alone : file_and_address 2 (codes "[::1]:5") ≡ None
unfolding rsplit_once
address_alone = refl

-- hand 0 has the file
first_has_the_file : are_of_files 3 (codes "keys,h:7") ≡ true ∷ false ∷ false ∷ []
unfolding rsplit_once
first_has_the_file = refl

all_have_connections : are_of_files 2 (codes "h:7") ≡ false ∷ false ∷ []
unfolding rsplit_once
all_have_connections = refl

-- the terminal on a leash, for one hand and for the first of several
dash_is_the_terminal : names_terminal (codes "-") ≡ true
dash_is_the_terminal = refl

dash_is_a_file : names_file (codes "-") ≡ true
dash_is_a_file = refl

dash_of_a_folder : names_terminal (codes "./-") ≡ false
dash_of_a_folder = refl

terminal_and_address : file_and_address 2 (codes "-,localhost:7")
    ≡ Some (codes "-", codes "localhost:7")
unfolding rsplit_once
terminal_and_address = refl
