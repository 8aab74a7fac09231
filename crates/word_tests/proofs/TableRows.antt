-- Each end of the ranges of the tables, by evaluation: the first row has the last value that is taken, and the second the one past it.
use Rattle.std.specs.Prelude.{◌≡◌, codes, Err, refl}
use Rattle.csv_tables.specs.{declared.fault.CsvRefusal.TheVariants.Range, Paths.path_in}
use Rattle.csv_tables.specs.{Things.things_in_table, Weapons.weapons_in, Worked.tables_unfolded}

pub path_greatest : path_in (codes "x,y,z,angle\n0,0,2147483647,0\n0,0,2147483648,0") ≡ Err (Range 2 2)
unfolding tables_unfolded
path_greatest = refl

pub path_angle : path_in (codes "x,y,z,angle\n0,0,0,4294967295\n0,0,0,4294967296") ≡ Err (Range 2 3)
unfolding tables_unfolded
path_angle = refl

pub path_extralight : path_in (codes "x,y,z,angle,extralight,colormap\n0,0,0,0,15,0\n0,0,0,0,16,0") ≡ Err (Range 2 4)
unfolding tables_unfolded
path_extralight = refl

pub path_colormap : path_in (codes "x,y,z,angle,extralight,colormap\n0,0,0,0,0,32\n0,0,0,0,0,33") ≡ Err (Range 2 5)
unfolding tables_unfolded
path_colormap = refl

pub things_type : things_in_table (codes "type,sprite,frame,bright,hang,shadow\n65535,TREE,A,0,0,0\n65536,TREE,A,0,0,0") ≡ Err (Range 2 0)
unfolding tables_unfolded
things_type = refl

pub things_last_frame : things_in_table (codes "type,sprite,frame,bright,hang,shadow\n1,TREE,],0,0,0\n2,TREE,^,0,0,0") ≡ Err (Range 2 2)
unfolding tables_unfolded
things_last_frame = refl

pub things_first_frame : things_in_table (codes "type,sprite,frame,bright,hang,shadow\n1,TREE,A,0,0,0\n2,TREE,@,0,0,0") ≡ Err (Range 2 2)
unfolding tables_unfolded
things_first_frame = refl

pub things_bright : things_in_table (codes "type,sprite,frame,bright,hang,shadow\n1,TREE,A,1,0,0\n2,TREE,A,2,0,0") ≡ Err (Range 2 3)
unfolding tables_unfolded
things_bright = refl

pub things_hang : things_in_table (codes "type,sprite,frame,bright,hang,shadow\n1,TREE,A,0,32767,0\n2,TREE,A,0,32768,0") ≡ Err (Range 2 4)
unfolding tables_unfolded
things_hang = refl

pub weapons_view : weapons_in (codes "view,sprite,frame,bright,sx,sy\n9999,PUNG,A,0,0,0\n10000,PUNG,A,0,0,0") ≡ Err (Range 2 0)
unfolding tables_unfolded
weapons_view = refl

pub weapons_least : weapons_in (codes "view,sprite,frame,bright,sx,sy\n0,PUNG,A,0,-2147483648,0\n0,PUNG,A,0,-2147483649,0") ≡ Err (Range 2 4)
unfolding tables_unfolded
weapons_least = refl

pub weapons_greatest : weapons_in (codes "view,sprite,frame,bright,sx,sy\n0,PUNG,A,0,0,2147483647\n0,PUNG,A,0,0,2147483648") ≡ Err (Range 2 5)
unfolding tables_unfolded
weapons_greatest = refl
