mod Root
