mod Vacant
